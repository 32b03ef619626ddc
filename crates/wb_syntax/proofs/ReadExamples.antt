-- Which bytes are read as which module, and which are refused.
use Rattle.std.specs.Prelude.{◌≡◌, ℕ, zero, suc, List, [], ◌∷◌, ◌++◌, take, replicate, Some, refl}
use Rattle.std.specs.Str.{is_utf8, chars}
use lib.Utf8.{encode}
use Rattle.wb_syntax.specs.Syntax.{Module, FuncType, I64}
use Rattle.wb_syntax.specs.Table.{row_at}
use Rattle.wb_syntax.specs.Grammar.{Floating}
use Rattle.wb_syntax.specs.Binary.{decoded, Decoded, IsModule, MalformedAt, OutsideAt}
use Rattle.wb_syntax.proofs.Samples.{seven, seven_bytes, padded_bytes, too_long_bytes, float_bytes}

-- padded numbers and a custom section change nothing
padded_is_read : decoded padded_bytes ≡ IsModule seven
unfolding is_utf8 chars encode row_at
padded_is_read = refl

-- a number of 64 bits has at most ten bytes
eleven_bytes_are_not : decoded too_long_bytes ≡ MalformedAt 29
unfolding is_utf8 chars encode row_at
eleven_bytes_are_not = refl

floats_are_outside : decoded float_bytes ≡ OutsideAt 29 Floating
unfolding is_utf8 chars encode row_at
floats_are_outside = refl

-- what the first n, n + 1, .. bytes give, so many answers
cuts : (count n : ℕ) → List Decoded
cuts zero n = []
cuts (suc k) n = decoded (take n seven_bytes) ∷ cuts k (suc n)

types_alone : List FuncType → Module
types_alone ts = record { types = ts; funcs = []; memories = []; globals = []; exports = [] }

-- the whole module, and every cut of it: one between two sections is read where it has as many functions as bodies
every_cut :
    cuts 38 0
    ≡ replicate 8 (MalformedAt 0)
    ++ IsModule (types_alone [])
    ∷ (replicate 6 (MalformedAt 8)
    ++ IsModule (types_alone (record { params = []; result = Some I64 } ∷ []))
    ∷ (replicate 3 (MalformedAt 15) ++ replicate 10 (MalformedAt 19) ++ replicate 8 (MalformedAt 29) ++ IsModule seven ∷ []))
unfolding cuts types_alone is_utf8 chars encode row_at
every_cut = refl
