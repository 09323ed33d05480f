-- An image of 284 bytes with every kind of record, and the first fault where one byte of it is another one. Expected values are
-- those of a reading of the format's description by another program.
use Rattle.std.proofs.Common.{◌≡◌, ℕ, ◌+◌, List, [], ◌∷◌, ◌++◌, drop, map, take, Option, Some, None, Result, Ok, Err, refl}
use Rattle.vk_format.specs.declared.rules.ObjectFault.{ObjectFault}
use Rattle.vk_format.specs.declared.rules.ObjectRule.{ObjectRule}
use Rattle.vk_format.specs.declared.rules.ObjectRule.TheVariants.{O1, O2, O3, O6, O7, O8, O9}
use Rattle.vk_format.specs.Format.{fault, judge}
use Rattle.vk_image_format.specs.Image.{image_format}
use Rattle.vk_image_format.specs.declared.rows.RawImage.{RawImage}

abbrev whole_bytes : List ℕ
whole_bytes =
    86 ∷ 75 ∷ 76 ∷ 73 ∷ 78 ∷ 75 ∷ 69 ∷ 68 ∷ 1 ∷ 0 ∷ 0 ∷ 98 ∷ 0 ∷ 0 ∷ 2 ∷ 0 ∷ 0 ∷ 0 ∷ 1 ∷ 0 ∷ 0 ∷ 0 ∷ 1 ∷ 0 ∷
    116 ∷ 1 ∷ 1 ∷ 3 ∷ 0 ∷ 0 ∷ 0 ∷ 2 ∷ 0 ∷ 0 ∷ 0 ∷ 7 ∷ 0 ∷ 9 ∷ 0 ∷ 3 ∷ 0 ∷ 0 ∷ 0 ∷ 1 ∷ 0 ∷ 0 ∷ 2 ∷ 0 ∷
    2 ∷ 0 ∷ 2 ∷ 10 ∷ 1 ∷ 0 ∷ 0 ∷ 0 ∷ 0 ∷ 0 ∷ 1 ∷ 0 ∷ 0 ∷ 0 ∷ 0 ∷ 2 ∷ 0 ∷ 0 ∷ 0 ∷ 0 ∷ 0 ∷ 0 ∷ 5 ∷ 0 ∷
    0 ∷ 0 ∷ 0 ∷ 0 ∷ 0 ∷ 0 ∷ 0 ∷ 0 ∷ 0 ∷ 0 ∷ 0 ∷ 2 ∷ 0 ∷ 2 ∷ 10 ∷ 1 ∷ 0 ∷ 1 ∷ 0 ∷ 2 ∷ 1 ∷ 0 ∷ 0 ∷ 0 ∷
    0 ∷ 0 ∷ 0 ∷ 0 ∷ 0 ∷ 0 ∷ 1 ∷ 0 ∷ 1 ∷ 0 ∷ 0 ∷ 0 ∷ 0 ∷ 1 ∷ 0 ∷ 4 ∷ 0 ∷ 0 ∷ 0 ∷ 0 ∷ 0 ∷ 1 ∷ 0 ∷ 1 ∷
    0 ∷ 1 ∷ 0 ∷ 1 ∷ 0 ∷ 1 ∷ 0 ∷ 2 ∷ 0 ∷ 0 ∷ 0 ∷ 2 ∷ 0 ∷ 0 ∷ 0 ∷ 16 ∷ 0 ∷ 0 ∷ 0 ∷ 0 ∷ 0 ∷ 0 ∷ 0 ∷ 0 ∷
    0 ∷ 0 ∷ 0 ∷ 0 ∷ 0 ∷ 0 ∷ 0 ∷ 18 ∷ 0 ∷ 0 ∷ 0 ∷ 0 ∷ 0 ∷ 0 ∷ 0 ∷ 0 ∷ 0 ∷ 0 ∷ 0 ∷ 0 ∷ 0 ∷ 0 ∷ 0 ∷ 1 ∷
    255 ∷ 255 ∷ 2 ∷ 0 ∷ 2 ∷ 0 ∷ 2 ∷ 10 ∷ 1 ∷ 0 ∷ 0 ∷ 0 ∷ 0 ∷ 0 ∷ 0 ∷ 0 ∷ 0 ∷ 0 ∷ 5 ∷ 0 ∷ 0 ∷ 0 ∷ 2 ∷ 0 ∷
    95 ∷ 78 ∷ 2 ∷ 4 ∷ 0 ∷ 0 ∷ 0 ∷ 0 ∷ 0 ∷ 0 ∷ 0 ∷ 0 ∷ 0 ∷ 0 ∷ 0 ∷ 0 ∷ 0 ∷ 0 ∷ 2 ∷ 4 ∷ 0 ∷ 0 ∷ 0 ∷ 16 ∷
    0 ∷ 0 ∷ 0 ∷ 1 ∷ 0 ∷ 102 ∷ 1 ∷ 1 ∷ 0 ∷ 0 ∷ 0 ∷ 0 ∷ 0 ∷ 4 ∷ 0 ∷ 109 ∷ 97 ∷ 105 ∷ 110 ∷ 0 ∷ 1 ∷ 0 ∷ 1 ∷ 0 ∷
    0 ∷ 0 ∷ 1 ∷ 0 ∷ 0 ∷ 0 ∷ 4 ∷ 0 ∷ 0 ∷ 0 ∷ 3 ∷ 0 ∷ 0 ∷ 0 ∷ 6 ∷ 0 ∷ 109 ∷ 97 ∷ 105 ∷ 110 ∷ 46 ∷ 115 ∷ 5 ∷ 1 ∷
    0 ∷ 2 ∷ 0 ∷ 0 ∷ 0 ∷ 6 ∷ 0 ∷ 109 ∷ 97 ∷ 105 ∷ 110 ∷ 46 ∷ 115 ∷ 4 ∷ 4 ∷ 0 ∷ 2 ∷ 0 ∷ 0 ∷ 0 ∷ []

abbrev fault_of : Result RawImage ObjectFault → Option ObjectFault
fault_of (Ok r) = None
fault_of (Err f) = Some f

-- the first fault of the bytes
abbrev refused : List ℕ → Option ObjectFault
refused bytes = fault_of (judge image_format 0 bytes)

-- one byte is another one
record Change : Type 0 where
  place : ℕ
  byte : ℕ
  at : ℕ
  rule : ObjectRule

abbrev change : ℕ → ℕ → ℕ → ObjectRule → Change
change place byte at rule = record { place = place; byte = byte; at = at; rule = rule }

abbrev changed : Change → List ℕ
changed c = take c.place whole_bytes ++ c.byte ∷ drop (c.place + 1) whole_bytes

abbrev found : List Change → List (Option ObjectFault)
found cs = map (λ c. refused (changed c)) cs

abbrev expected : List Change → List (Option ObjectFault)
expected cs = map (λ c. Some (fault c.at c.rule)) cs

accepted : refused whole_bytes ≡ None
unfolding judge
accepted = refl

abbrev changes_0 : List Change
changes_0 =
    change 0 7 0 O1
    ∷ change 3 7 3 O1
    ∷ change 4 16 4 O1
    ∷ change 5 23 5 O1
    ∷ change 6 3 6 O1
    ∷ change 8 17 8 O2
    ∷ change 11 95 11 O3
    ∷ change 12 95 12 O3
    ∷ change 14 4 14 O7
    ∷ change 18 0 46 O7
    ∷ change 21 2 39 O7
    ∷ change 22 19 22 O7
    ∷ change 25 96 25 O7
    ∷ change 26 100 26 O7
    ∷ change 30 7 284 O9
    ∷ change 32 21 31 O7
    ∷ change 37 0 22 O6
    ∷ change 39 116 186 O7
    ∷ change 43 0 43 O9
    ∷ change 43 24 43 O7
    ∷ []

refused_0 : found changes_0 ≡ expected changes_0
unfolding judge
refused_0 = refl

abbrev changes_1 : List Change
changes_1 =
    change 44 1 197 O7
    ∷ change 44 101 43 O9
    ∷ change 45 8 43 O9
    ∷ change 48 0 70 O8
    ∷ change 48 3 69 O8
    ∷ change 48 15 81 O8
    ∷ change 48 16 82 O8
    ∷ change 48 21 168 O7
    ∷ change 48 23 83 O7
    ∷ change 48 31 86 O7
    ∷ change 48 32 100 O7
    ∷ change 48 64 127 O7
    ∷ change 48 98 169 O7
    ∷ change 51 112 51 O7
    ∷ change 52 0 43 O9
    ∷ change 53 110 43 O9
    ∷ change 54 2 70 O7
    ∷ change 55 11 85 O7
    ∷ change 57 97 58 O7
    ∷ change 58 9 228 O7
    ∷ []

refused_1 : found changes_1 ≡ expected changes_1
unfolding judge
refused_1 = refl

abbrev changes_2 : List Change
changes_2 =
    change 62 6 62 O9
    ∷ change 63 17 62 O9
    ∷ change 65 25 62 O9
    ∷ change 66 24 62 O9
    ∷ change 68 95 62 O9
    ∷ change 69 17 62 O9
    ∷ change 73 128 62 O9
    ∷ change 74 128 62 O9
    ∷ change 75 3 62 O9
    ∷ change 76 25 62 O9
    ∷ change 78 1 111 O9
    ∷ change 81 64 78 O9
    ∷ change 83 7 124 O7
    ∷ change 83 12 115 O8
    ∷ change 83 65 172 O7
    ∷ change 85 3 242 O7
    ∷ change 85 20 111 O9
    ∷ change 86 3 111 O9
    ∷ change 87 0 78 O9
    ∷ change 90 100 116 O7
    ∷ []

refused_2 : found changes_2 ≡ expected changes_2
unfolding judge
refused_2 = refl

abbrev changes_3 : List Change
changes_3 =
    change 91 1 104 O7
    ∷ change 91 48 119 O7
    ∷ change 92 112 92 O7
    ∷ change 93 31 91 O9
    ∷ change 95 128 91 O9
    ∷ change 96 16 91 O9
    ∷ change 97 3 91 O9
    ∷ change 97 99 97 O7
    ∷ change 99 6 98 O7
    ∷ change 102 24 91 O9
    ∷ change 103 101 91 O9
    ∷ change 106 6 105 O7
    ∷ change 112 9 111 O7
    ∷ change 113 255 111 O9
    ∷ change 114 98 111 O9
    ∷ change 116 5 111 O9
    ∷ change 117 0 125 O8
    ∷ change 117 10 170 O7
    ∷ change 117 14 149 O8
    ∷ change 117 15 151 O8
    ∷ []

refused_3 : found changes_3 ≡ expected changes_3
unfolding judge
refused_3 = refl

abbrev changes_4 : List Change
changes_4 =
    change 117 19 111 O9
    ∷ change 117 22 165 O8
    ∷ change 117 32 185 O8
    ∷ change 119 2 111 O9
    ∷ change 120 25 111 O9
    ∷ change 121 3 135 O8
    ∷ change 121 5 151 O7
    ∷ change 121 11 167 O8
    ∷ change 121 13 175 O8
    ∷ change 121 15 183 O8
    ∷ change 121 16 187 O8
    ∷ change 121 17 191 O8
    ∷ change 121 18 195 O8
    ∷ change 121 21 207 O8
    ∷ change 121 23 215 O8
    ∷ change 121 24 219 O8
    ∷ change 123 255 111 O9
    ∷ change 124 13 111 O9
    ∷ change 127 0 246 O7
    ∷ change 127 1 78 O9
    ∷ []

refused_4 : found changes_4 ≡ expected changes_4
unfolding judge
refused_4 = refl

abbrev changes_5 : List Change
changes_5 =
    change 130 254 127 O8
    ∷ change 131 3 195 O7
    ∷ change 131 8 271 O7
    ∷ change 135 99 135 O9
    ∷ change 137 13 135 O9
    ∷ change 138 21 135 O9
    ∷ change 140 254 135 O9
    ∷ change 143 255 135 O9
    ∷ change 144 48 135 O9
    ∷ change 147 128 135 O9
    ∷ change 148 20 135 O9
    ∷ change 149 200 135 O9
    ∷ change 153 96 151 O9
    ∷ change 154 25 151 O9
    ∷ change 156 3 151 O9
    ∷ change 159 97 151 O9
    ∷ change 160 1 151 O9
    ∷ change 161 96 151 O9
    ∷ change 162 3 151 O9
    ∷ change 164 98 151 O9
    ∷ []

refused_5 : found changes_5 ≡ expected changes_5
unfolding judge
refused_5 = refl

abbrev changes_6 : List Change
changes_6 =
    change 169 112 167 O9
    ∷ change 170 22 167 O9
    ∷ change 171 2 167 O9
    ∷ change 172 10 193 O7
    ∷ change 172 11 191 O7
    ∷ change 172 15 194 O7
    ∷ change 172 17 209 O7
    ∷ change 172 18 221 O7
    ∷ change 172 24 192 O7
    ∷ change 175 110 175 O7
    ∷ change 176 0 167 O9
    ∷ change 177 96 167 O9
    ∷ change 180 1 212 O7
    ∷ change 182 3 238 O7
    ∷ change 186 2 14 O8
    ∷ change 186 3 246 O8
    ∷ change 194 4 201 O7
    ∷ change 197 1 209 O8
    ∷ change 198 128 197 O8
    ∷ change 201 2 202 O7
    ∷ []

refused_6 : found changes_6 ≡ expected changes_6
unfolding judge
refused_6 = refl

abbrev changes_7 : List Change
changes_7 =
    change 209 116 206 O7
    ∷ change 210 0 211 O7
    ∷ change 211 6 190 O7
    ∷ change 218 11 215 O7
    ∷ change 219 7 219 O7
    ∷ change 221 116 229 O6
    ∷ change 222 4 223 O7
    ∷ change 222 24 222 O7
    ∷ change 225 1 229 O8
    ∷ change 228 23 225 O8
    ∷ change 229 1 232 O7
    ∷ change 229 2 233 O7
    ∷ change 229 3 234 O7
    ∷ change 233 10 229 O7
    ∷ change 234 122 254 O6
    ∷ change 235 1 78 O9
    ∷ change 237 6 236 O7
    ∷ change 238 95 238 O8
    ∷ change 243 128 242 O8
    ∷ change 251 96 250 O8
    ∷ []

refused_7 : found changes_7 ≡ expected changes_7
unfolding judge
refused_7 = refl

abbrev changes_8 : List Change
changes_8 =
    change 254 5 261 O7
    ∷ change 256 122 269 O6
    ∷ change 259 17 254 O7
    ∷ change 262 0 250 O7
    ∷ change 262 116 262 O7
    ∷ change 264 96 263 O7
    ∷ change 265 101 265 O8
    ∷ change 274 31 269 O7
    ∷ change 277 0 278 O7
    ∷ change 283 11 280 O8
    ∷ []

refused_8 : found changes_8 ≡ expected changes_8
unfolding judge
refused_8 = refl
