-- An object of 282 bytes with every kind of record, and the first fault where one byte of it is another one. Expected values are
-- those of a reading of the format's description by another program.
use Rattle.std.proofs.Common.{◌≡◌, ℕ, ◌+◌, List, [], ◌∷◌, ◌++◌, drop, map, take, Option, Some, None, Result, Ok, Err, refl}
use Rattle.vk_format.specs.declared.rules.ObjectFault.{ObjectFault}
use Rattle.vk_format.specs.declared.rules.ObjectRule.{ObjectRule}
use Rattle.vk_format.specs.declared.rules.ObjectRule.TheVariants.{O1, O2, O5, O6, O7, O8, O9}
use Rattle.vk_format.specs.Format.{fault, judge}
use Rattle.vk_object_format.specs.Object.{object_format}
use Rattle.vk_object_format.specs.declared.rows.RawObject.{RawObject}

abbrev whole_bytes : List ℕ
whole_bytes =
    86 ∷ 75 ∷ 79 ∷ 66 ∷ 74 ∷ 69 ∷ 67 ∷ 84 ∷ 1 ∷ 0 ∷ 0 ∷ 0 ∷ 4 ∷ 0 ∷ 0 ∷ 0 ∷ 1 ∷ 0 ∷ 102 ∷ 1 ∷ 0 ∷ 103 ∷ 1 ∷ 0 ∷
    116 ∷ 1 ∷ 0 ∷ 120 ∷ 2 ∷ 0 ∷ 0 ∷ 0 ∷ 2 ∷ 0 ∷ 0 ∷ 0 ∷ 1 ∷ 3 ∷ 3 ∷ 0 ∷ 0 ∷ 0 ∷ 2 ∷ 0 ∷ 0 ∷ 0 ∷ 7 ∷ 0 ∷
    9 ∷ 0 ∷ 3 ∷ 0 ∷ 0 ∷ 0 ∷ 2 ∷ 0 ∷ 4 ∷ 0 ∷ 0 ∷ 0 ∷ 0 ∷ 0 ∷ 0 ∷ 0 ∷ 2 ∷ 0 ∷ 0 ∷ 0 ∷ 0 ∷ 0 ∷ 0 ∷ 0 ∷
    2 ∷ 2 ∷ 2 ∷ 10 ∷ 1 ∷ 0 ∷ 2 ∷ 4 ∷ 0 ∷ 0 ∷ 0 ∷ 0 ∷ 0 ∷ 0 ∷ 0 ∷ 0 ∷ 0 ∷ 0 ∷ 2 ∷ 4 ∷ 0 ∷ 0 ∷ 0 ∷ 16 ∷
    0 ∷ 0 ∷ 0 ∷ 1 ∷ 1 ∷ 0 ∷ 0 ∷ 2 ∷ 0 ∷ 2 ∷ 10 ∷ 1 ∷ 0 ∷ 0 ∷ 0 ∷ 0 ∷ 0 ∷ 1 ∷ 0 ∷ 0 ∷ 0 ∷ 0 ∷ 2 ∷ 0 ∷
    0 ∷ 0 ∷ 0 ∷ 0 ∷ 0 ∷ 5 ∷ 0 ∷ 0 ∷ 0 ∷ 0 ∷ 0 ∷ 0 ∷ 0 ∷ 1 ∷ 0 ∷ 0 ∷ 2 ∷ 0 ∷ 2 ∷ 10 ∷ 1 ∷ 0 ∷ 0 ∷ 0 ∷
    0 ∷ 0 ∷ 1 ∷ 0 ∷ 0 ∷ 0 ∷ 0 ∷ 2 ∷ 0 ∷ 0 ∷ 0 ∷ 0 ∷ 0 ∷ 0 ∷ 5 ∷ 0 ∷ 0 ∷ 0 ∷ 0 ∷ 0 ∷ 0 ∷ 0 ∷ 1 ∷ 0 ∷
    0 ∷ 0 ∷ 255 ∷ 2 ∷ 2 ∷ 10 ∷ 0 ∷ 0 ∷ 1 ∷ 0 ∷ 255 ∷ 255 ∷ 3 ∷ 0 ∷ 2 ∷ 10 ∷ 2 ∷ 2 ∷ 0 ∷ 1 ∷ 0 ∷ 0 ∷ 0 ∷ 0 ∷
    0 ∷ 2 ∷ 1 ∷ 2 ∷ 0 ∷ 0 ∷ 0 ∷ 5 ∷ 0 ∷ 0 ∷ 0 ∷ 0 ∷ 1 ∷ 0 ∷ 1 ∷ 0 ∷ 0 ∷ 0 ∷ 0 ∷ 1 ∷ 0 ∷ 4 ∷ 0 ∷ 0 ∷
    0 ∷ 2 ∷ 0 ∷ 1 ∷ 0 ∷ 1 ∷ 0 ∷ 1 ∷ 0 ∷ 1 ∷ 0 ∷ 1 ∷ 0 ∷ 1 ∷ 255 ∷ 255 ∷ 2 ∷ 0 ∷ 2 ∷ 10 ∷ 1 ∷ 0 ∷ 0 ∷ 0 ∷
    0 ∷ 0 ∷ 0 ∷ 0 ∷ 0 ∷ 0 ∷ 2 ∷ 0 ∷ 0 ∷ 0 ∷ 16 ∷ 0 ∷ 0 ∷ 0 ∷ 0 ∷ 0 ∷ 0 ∷ 0 ∷ 0 ∷ 0 ∷ 0 ∷ 0 ∷ 0 ∷ 0 ∷
    0 ∷ 0 ∷ 18 ∷ 0 ∷ 0 ∷ 0 ∷ 0 ∷ 0 ∷ 0 ∷ 0 ∷ 0 ∷ 0 ∷ 0 ∷ 0 ∷ 0 ∷ 0 ∷ 0 ∷ 0 ∷ []

abbrev fault_of : Result RawObject ObjectFault → Option ObjectFault
fault_of (Ok r) = None
fault_of (Err f) = Some f

-- the first fault of the bytes
abbrev refused : List ℕ → Option ObjectFault
refused bytes = fault_of (judge object_format 0 bytes)

-- one byte is another one
record Change : Type 0 where
  place : ℕ
  byte : ℕ
  at : ℕ
  rule : ObjectRule

abbrev change : ℕ → ℕ → ℕ → ObjectRule → Change
change place byte at rule = record { place = place; byte = byte; at = at; rule = rule }

abbrev changed : Change → List ℕ
changed c = take c.place whole_bytes ++ c.byte ∷ drop (c.place + 1) whole_bytes

abbrev found : List Change → List (Option ObjectFault)
found cs = map (λ c. refused (changed c)) cs

abbrev expected : List Change → List (Option ObjectFault)
expected cs = map (λ c. Some (fault c.at c.rule)) cs

accepted : refused whole_bytes ≡ None
unfolding judge
accepted = refl

abbrev changes_0 : List Change
changes_0 =
    change 0 22 0 O1
    ∷ change 1 96 1 O1
    ∷ change 2 23 2 O1
    ∷ change 4 12 4 O1
    ∷ change 5 110 5 O1
    ∷ change 6 9 6 O1
    ∷ change 8 11 8 O2
    ∷ change 12 0 20 O8
    ∷ change 12 1 23 O8
    ∷ change 15 9 28 O7
    ∷ change 18 32 16 O7
    ∷ change 19 31 19 O7
    ∷ change 21 65 19 O6
    ∷ change 24 99 22 O6
    ∷ change 25 9 25 O7
    ∷ change 27 115 25 O6
    ∷ change 28 0 36 O8
    ∷ change 28 1 54 O8
    ∷ change 29 122 64 O6
    ∷ change 32 0 16 O6
    ∷ []

refused_0 : found changes_0 ≡ expected changes_0
unfolding judge
refused_0 = refl

abbrev changes_1 : List Change
changes_1 =
    change 32 3 50 O6
    ∷ change 33 19 32 O8
    ∷ change 36 4 32 O6
    ∷ change 36 7 62 O8
    ∷ change 37 15 37 O7
    ∷ change 42 1 48 O8
    ∷ change 42 3 52 O8
    ∷ change 43 17 42 O7
    ∷ change 50 20 50 O8
    ∷ change 62 8 60 O7
    ∷ change 68 4 68 O8
    ∷ change 72 255 100 O9
    ∷ change 73 0 77 O7
    ∷ change 73 6 83 O6
    ∷ change 73 7 84 O6
    ∷ change 73 9 86 O6
    ∷ change 73 10 87 O8
    ∷ change 73 11 88 O8
    ∷ change 73 12 89 O8
    ∷ change 73 14 90 O7
    ∷ []

refused_1 : found changes_1 ≡ expected changes_1
unfolding judge
refused_1 = refl

abbrev changes_2 : List Change
changes_2 =
    change 73 18 95 O8
    ∷ change 73 19 95 O7
    ∷ change 73 32 112 O7
    ∷ change 73 64 144 O7
    ∷ change 74 4 100 O9
    ∷ change 76 0 78 O7
    ∷ change 79 96 79 O7
    ∷ change 81 122 81 O7
    ∷ change 82 115 82 O7
    ∷ change 90 0 91 O7
    ∷ change 100 116 100 O7
    ∷ change 103 4 125 O7
    ∷ change 103 6 115 O8
    ∷ change 103 18 135 O8
    ∷ change 103 64 173 O8
    ∷ change 103 65 174 O8
    ∷ change 103 98 170 O7
    ∷ change 105 19 100 O9
    ∷ change 105 99 105 O7
    ∷ change 110 99 111 O8
    ∷ []

refused_2 : found changes_2 ≡ expected changes_2
unfolding judge
refused_2 = refl

abbrev changes_3 : List Change
changes_3 =
    change 111 7 113 O7
    ∷ change 113 0 134 O8
    ∷ change 113 4 230 O7
    ∷ change 117 12 117 O9
    ∷ change 123 9 117 O9
    ∷ change 128 200 117 O9
    ∷ change 129 122 117 O9
    ∷ change 130 17 117 O9
    ∷ change 133 24 133 O7
    ∷ change 136 10 168 O8
    ∷ change 136 14 242 O6
    ∷ change 136 25 167 O8
    ∷ change 138 65 138 O7
    ∷ change 140 0 133 O9
    ∷ change 141 122 133 O9
    ∷ change 145 4 146 O7
    ∷ change 146 0 150 O8
    ∷ change 146 2 182 O8
    ∷ change 146 3 198 O8
    ∷ change 146 4 214 O8
    ∷ []

refused_3 : found changes_3 ≡ expected changes_3
unfolding judge
refused_3 = refl

abbrev changes_4 : List Change
changes_4 =
    change 146 6 250 O7
    ∷ change 151 122 150 O9
    ∷ change 153 16 150 O9
    ∷ change 155 13 150 O9
    ∷ change 156 110 150 O9
    ∷ change 157 64 150 O9
    ∷ change 161 254 150 O9
    ∷ change 162 3 150 O9
    ∷ change 166 0 166 O6
    ∷ change 166 24 166 O8
    ∷ change 171 1 176 O7
    ∷ change 171 5 179 O7
    ∷ change 172 97 172 O7
    ∷ change 173 128 173 O7
    ∷ change 174 31 177 O7
    ∷ change 176 0 177 O5
    ∷ change 178 16 177 O9
    ∷ change 180 8 194 O8
    ∷ change 180 10 196 O8
    ∷ change 180 11 197 O8
    ∷ []

refused_4 : found changes_4 ≡ expected changes_4
unfolding judge
refused_4 = refl

abbrev changes_5 : List Change
changes_5 =
    change 180 15 201 O8
    ∷ change 180 17 217 O7
    ∷ change 180 18 206 O7
    ∷ change 180 19 205 O8
    ∷ change 180 21 222 O8
    ∷ change 180 22 208 O8
    ∷ change 180 25 177 O9
    ∷ change 180 48 234 O8
    ∷ change 182 12 177 O9
    ∷ change 183 0 177 O9
    ∷ change 183 48 183 O7
    ∷ change 184 11 189 O9
    ∷ change 184 48 184 O7
    ∷ change 185 0 177 O9
    ∷ change 186 98 177 O9
    ∷ change 188 99 211 O8
    ∷ change 192 21 189 O8
    ∷ change 193 32 221 O7
    ∷ change 194 18 194 O7
    ∷ change 195 11 189 O9
    ∷ []

refused_5 : found changes_5 ≡ expected changes_5
unfolding judge
refused_5 = refl

abbrev changes_6 : List Change
changes_6 =
    change 198 98 189 O9
    ∷ change 199 10 199 O7
    ∷ change 200 19 189 O9
    ∷ change 204 13 189 O9
    ∷ change 205 115 189 O9
    ∷ change 208 65 207 O7
    ∷ change 211 0 217 O9
    ∷ change 216 110 213 O9
    ∷ change 218 21 213 O9
    ∷ change 219 2 231 O7
    ∷ change 219 17 266 O7
    ∷ change 221 115 213 O9
    ∷ change 222 31 213 O9
    ∷ change 225 255 213 O9
    ∷ change 228 254 213 O9
    ∷ change 229 98 229 O7
    ∷ change 230 12 213 O9
    ∷ change 231 101 213 O9
    ∷ change 232 7 245 O7
    ∷ change 232 8 246 O7
    ∷ []

refused_6 : found changes_6 ≡ expected changes_6
unfolding judge
refused_6 = refl

abbrev changes_7 : List Change
changes_7 =
    change 232 10 248 O8
    ∷ change 232 15 263 O5
    ∷ change 232 16 264 O5
    ∷ change 232 32 280 O5
    ∷ change 234 99 234 O7
    ∷ change 235 110 235 O7
    ∷ change 240 65 240 O7
    ∷ change 246 0 250 O5
    ∷ change 250 64 250 O9
    ∷ change 251 112 250 O9
    ∷ change 252 200 250 O9
    ∷ change 253 110 250 O9
    ∷ change 254 25 250 O9
    ∷ change 256 115 250 O9
    ∷ change 257 200 250 O9
    ∷ change 258 95 250 O9
    ∷ change 259 9 250 O9
    ∷ change 263 8 250 O9
    ∷ change 264 16 250 O9
    ∷ change 265 31 250 O9
    ∷ []

refused_7 : found changes_7 ≡ expected changes_7
unfolding judge
refused_7 = refl

abbrev changes_8 : List Change
changes_8 =
    change 266 31 266 O9
    ∷ change 267 97 266 O9
    ∷ change 268 11 266 O9
    ∷ change 269 96 266 O9
    ∷ change 270 17 266 O9
    ∷ change 271 15 266 O9
    ∷ change 272 65 266 O9
    ∷ change 277 9 266 O9
    ∷ change 278 99 266 O9
    ∷ change 279 2 266 O9
    ∷ []

refused_8 : found changes_8 ≡ expected changes_8
unfolding judge
refused_8 = refl
