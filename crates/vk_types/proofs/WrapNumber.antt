-- Type by type, by its width and whether it is signed.
use Rattle.std.proofs.Common.{◌≡◌, ℤ, w8, w16, w32, w64}
use Rattle.std.proofs.lemmas.Int.{SFits-int_wrap}
use Rattle.vk_types.specs.declared.types.Ty.{Ty}
use Rattle.vk_types.specs.declared.types.Ty.TheVariants.{I8, I16, I32, I64, U8, U16, U32, U64}
use Rattle.vk_types.specs.Numbers.{IsWrapOf, wrap_number}
use Rattle.vk_types.proofs.Wrapping.{rem_fits, signed_multiple, signed_only, unsigned_multiple, unsigned_only}

pub differs : (t : Ty) (z : ℤ) → IsWrapOf t z (wrap_number t z)
differs I8 z = record { in_range = SFits-int_wrap w8 z; multiple = (signed_multiple w8 z).0; differs = (signed_multiple w8 z).1 }
differs I16 z = record { in_range = SFits-int_wrap w16 z; multiple = (signed_multiple w16 z).0; differs = (signed_multiple w16 z).1 }
differs I32 z = record { in_range = SFits-int_wrap w32 z; multiple = (signed_multiple w32 z).0; differs = (signed_multiple w32 z).1 }
differs I64 z = record { in_range = SFits-int_wrap w64 z; multiple = (signed_multiple w64 z).0; differs = (signed_multiple w64 z).1 }
differs U8 z = record { in_range = rem_fits w8 z; multiple = (unsigned_multiple w8 z).0; differs = (unsigned_multiple w8 z).1 }
differs U16 z = record { in_range = rem_fits w16 z; multiple = (unsigned_multiple w16 z).0; differs = (unsigned_multiple w16 z).1 }
differs U32 z = record { in_range = rem_fits w32 z; multiple = (unsigned_multiple w32 z).0; differs = (unsigned_multiple w32 z).1 }
differs U64 z = record { in_range = rem_fits w64 z; multiple = (unsigned_multiple w64 z).0; differs = (unsigned_multiple w64 z).1 }

pub only : (t : Ty) (z r : ℤ) → IsWrapOf t z r → r ≡ wrap_number t z
only I8 z r h = signed_only w8 z r h.multiple h.in_range h.differs
only I16 z r h = signed_only w16 z r h.multiple h.in_range h.differs
only I32 z r h = signed_only w32 z r h.multiple h.in_range h.differs
only I64 z r h = signed_only w64 z r h.multiple h.in_range h.differs
only U8 z r h = unsigned_only w8 z r h.multiple h.in_range h.differs
only U16 z r h = unsigned_only w16 z r h.multiple h.in_range h.differs
only U32 z r h = unsigned_only w32 z r h.multiple h.in_range h.differs
only U64 z r h = unsigned_only w64 z r h.multiple h.in_range h.differs
