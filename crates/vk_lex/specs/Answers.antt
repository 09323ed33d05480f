-- What the reader of tokens answers.
use Rattle.std.specs.Prelude.{◌≡◌, ℕ, List, map, Result, Ok, Err}
use Rattle.vk_tokens.specs.declared.tokens.Tokens.{Tokens}
use Rattle.vk_unit_rules.specs.declared.rules.UnitRule.{UnitRule}
use Rattle.vk_unit_rules.specs.declared.rules.UnitFail.{UnitFail}
use Rattle.vk_unit_rules.specs.declared.rules.UnitFail.TheVariants.{Fault, Memory}
use Rattle.vk_lex.specs.Tokens.{Tok, tok_of}

-- these tokens, or want of memory
abbrev pub IsTokensOrMemory : Result Tokens UnitFail → List Tok → Type 0
IsTokensOrMemory (Ok ts) all = map (tok_of ts.names) ts.list.items ≡ all
IsTokensOrMemory (Err (Fault line rule)) all = ⊥
IsTokensOrMemory (Err Memory) all = Unit {0}

-- a fault of which this holds, or want of memory
abbrev pub IsFaultOrMemory : UnitFail → (ℕ → UnitRule → Type 0) → Type 0
IsFaultOrMemory (Fault line rule) Is = Is line rule
IsFaultOrMemory Memory Is = Unit {0}

-- this fault, or want of memory
abbrev pub IsRefusedOrMemory : Result Tokens UnitFail → ℕ → UnitRule → Type 0
IsRefusedOrMemory (Ok ts) line rule = ⊥
IsRefusedOrMemory (Err (Fault l r)) line rule = (l ≡ line) × (r ≡ rule)
IsRefusedOrMemory (Err Memory) line rule = Unit {0}
