-- Tables of what was noted first.
use Rattle.std.proofs.Common.{◌≡◌, Bool, true, false, cond, Option, Some, None, is_some, refl, sym, ap, true≢false}
use Rattle.std.specs.Option.{option_or}

module _ {T : Type 0} where
  or_none : (o : Option T) → o ≡ option_or o None
  or_none None = refl
  or_none (Some v) = refl

  -- noted where nothing was
  pub noting : (same : Bool) (old : Option T) (v : T) → (same ≡ true → old ≡ None) → cond same (Some v) old ≡ option_or old (cond same (Some v) None)
  noting true old v h = sym (ap (λ (o : Option T). option_or o (Some v)) (h refl))
  noting false old v h = or_none old

  pub nothing_there : (o : Option T) → is_some o ≡ false → o ≡ None
  nothing_there None e = refl
  nothing_there (Some v) e = absurd (true≢false e)
