-- What code may name, and which codes have to be lane code.
use Rattle.std.proofs.Common.{◌≡◌, ℕ, zero, suc, ◌+◌, ◌<◌, Bool, true, false, ◌||◌, List, [], ◌∷◌, ◌++◌, length, map, take, get_or, replicate, Option, Some, None, refl, ap, ap₂, sym, ◌∙◌, arith}
use Rattle.std.specs.Prelude.{slice_get}
use Rattle.std.specs.List.{list_any}
use Rattle.std.specs.Option.{option_map}
use Rattle.std.proofs.lemmas.List.{take_more}
use Rattle.std.proofs.lemmas.Option.{slice_get-map}
use Rattle.vk_code.specs.declared.env.FunctionHead.{FunctionHead}
use Rattle.vk_code.specs.declared.env.ObjectHead.{ObjectHead}
use Rattle.vk_code.specs.Listing.{SimdSite, numbered_code}
use Rattle.vk_code.specs.Tests.{holds}
use Rattle.vk_code.specs.Valid.{Environment, callee_of}
use Rattle.vk_code_format.specs.declared.rows.CodeRow.{CodeRow}
use Rattle.vk_code_format.specs.Values.{listing_of, site_of}
use Rattle.vk_image.proofs.Lists.{map_map}
use Rattle.vk_image.specs.Inner.Rounds.{is_told}
use Rattle.vk_image_format.specs.declared.rows.RawEntry.{RawEntry}
use Rattle.vk_image_format.specs.declared.rows.RawImage.{RawImage}
use Rattle.vk_image_format.specs.Image.{asks_for, is_body_code}
use Rattle.vk_image_format.specs.Values.{array_of, entry_of, tables_of}
use Rattle.vk_object.specs.Images.{is_equal, names_of, object_of}
use Rattle.vk_object_faults.proofs.Along.{same_item}
use Rattle.vk_image_faults.specs.Inner.Told.{asks, asks_by_loops, asks_itself, names_body}

abbrev names_from : List FunctionHead → List ObjectHead → Environment
names_from functions objects = record { image = true; callees = map callee_of functions; objects = objects }

pub names_made : (i : RawImage) (functions : List FunctionHead) (objects : List ObjectHead) → functions ≡ [] → objects ≡ map (λ a. object_of (array_of a)) i.arrays → names_from functions objects ≡ names_of (tables_of i)
names_made i functions objects h k = ap₂ names_from h (k ∙ sym (map_map object_of array_of i.arrays))

-- ---- one member more

or_more : (a b c : Bool) → (a || b || c) ≡ (a || (b || c))
or_more true b c = refl
or_more false b c = refl

or_none : (a : Bool) → (a || false) ≡ a
or_none true = refl
or_none false = refl

any_behind : {A : Type 0} (p : A → Bool) (xs : List A) (y : A) → list_any p (xs ++ y ∷ []) ≡ (list_any p xs || p y)
any_behind p [] y = or_none (p y)
any_behind p (x ∷ xs) y = ap (λ b. p x || b) (any_behind p xs y) ∙ sym (or_more (p x) (list_any p xs) (p y))

pub any_more : {A : Type 0} (p : A → Bool) (xs : List A) (i : ℕ) (d : A) → i < length xs → list_any p (take (i + 1) xs) ≡ (list_any p (take i xs) || p (get_or xs i d))
any_more p xs i d h = ap (list_any p) (take_more xs i d h) ∙ any_behind p (take i xs) (get_or xs i d)

-- what was told, by the members so far and one more
pub told_more : {A : Type 0} (p : A → Bool) (xs : List A) (i : ℕ) (x d : A) (first before after : Bool) → i < length xs → x ≡ get_or xs i d
    → before ≡ (first || list_any p (take i xs)) → after ≡ (before || p x) → after ≡ (first || list_any p (take (i + 1) xs))
told_more p xs i x d first before after inside is old new =
    new ∙ ap₂ (λ b y. b || p y) old is ∙ or_more first (list_any p (take i xs)) (p (get_or xs i d)) ∙ ap (λ b. first || b) (sym (any_more p xs i d inside))

-- an entry more, which asks for its code and for those of its loops
pub both_told : (codes : List CodeRow) (n : ℕ) (xs : List RawEntry) (i : ℕ) (x y : RawEntry) (first before between after : Bool) → i < length xs → x ≡ get_or xs i x → y ≡ get_or xs i y
    → before ≡ (first || list_any (asks codes n) (take i xs)) → between ≡ (before || asks_itself x n) → after ≡ (between || asks_by_loops codes y n) → after ≡ (first || list_any (asks codes n) (take (i + 1) xs))
both_told codes n xs i x y first before between after inside is also old new newer =
    told_more (asks codes n) xs i x x first before after inside is old
    (newer ∙ ap₂ (λ b z. b || asks_by_loops codes z n) new (sym (same_item xs i x y inside is also)) ∙ or_more before (asks_itself x n) (asks_by_loops codes x n))

-- ---- what entries ask for

any_map : {A B : Type 0} (p : B → Bool) (f : A → B) (xs : List A) → list_any p (map f xs) ≡ list_any (λ x. p (f x)) xs
any_map p f [] = refl
any_map p f (x ∷ xs) = ap (λ b. p (f x) || b) (any_map p f xs)

body_named : (k : ℕ) (o : Option CodeRow) → holds (λ c. names_body c k) o ≡ holds (λ c. is_body_code c k) (option_map listing_of o)
body_named k None = refl
body_named k (Some c) = sym (any_map (λ (l : SimdSite). holds (is_equal k) (numbered_code l.body)) site_of c.loops)

asks_is : (i : RawImage) (k : ℕ) (e : RawEntry) → asks i.codes k e ≡ asks_for (tables_of i) k (entry_of e)
asks_is i k e =
    ap (λ b. asks_itself e k || b) (body_named k (slice_get i.codes e.front.code) ∙ ap (holds (λ c. is_body_code c k)) (sym (slice_get-map listing_of i.codes e.front.code)))

pub all_asked : (i : RawImage) (k : ℕ) → list_any (asks i.codes k) i.entries ≡ list_any (asks_for (tables_of i) k) (tables_of i).entries
all_asked i k = (λ t. list_any (λ e. asks_is i k e t) i.entries) ∙ sym (any_map (asks_for (tables_of i) k) entry_of i.entries)

-- what was written over a whole list
pub written_over : (xs ys : List Bool) (n : ℕ) → n ≡ length ys → take n (ys ++ xs) ≡ ys
written_over xs [] zero h = refl
written_over xs [] (suc n) h = absurd (omega (arith, h))
written_over xs (y ∷ ys) zero h = absurd (omega (arith, h))
written_over xs (y ∷ ys) (suc n) h = ap (λ zs. y ∷ zs) (written_over xs ys n (omega (arith, h)))

-- none is asked for at first
pub none_told : (n k : ℕ) → is_told (replicate n false) k ≡ false
none_told zero k = refl
none_told (suc n) zero = refl
none_told (suc n) (suc k) = none_told n k
