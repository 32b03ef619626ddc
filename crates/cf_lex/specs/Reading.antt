-- What the loop over the pieces of a text answers.
use Rattle.std.specs.Prelude.{◌≡◌, ℕ, List, [], ◌∷◌, Result, Ok, Err}
use Rattle.std.specs.declared.alloc.Global.{Global}
use Rattle.std.specs.declared.string.String.{String}
use Rattle.std.specs.declared.vec.Vec.{Vec}
use Rattle.indexmap.specs.IndexSet.{IndexSet}
use Rattle.cf_lex.specs.Tokens.{Item, Lexes}
use Rattle.cf_lex.specs.Names.{first_seen, names_in, tokens_of}
use Rattle.cf_lex.specs.Naming.{bytes_of}
use Rattle.cf_lex.specs.declared.ends.LexEnd.{LexEnd}
use Rattle.cf_lex.specs.declared.ends.LexEnd.TheVariants as end
use Rattle.cf_lex.specs.declared.token.Token.{Token}

-- at some byte no piece begins, or memory ran out
abbrev pub Refuses : List ℕ → LexEnd → Type 0
Refuses cs (end.NotText at) = ⊥
Refuses cs (end.BadChar at) = (items : List Item) × (c : ℕ) × (left : List ℕ) × Lexes 0 cs items at (c ∷ left)
Refuses cs end.NoMemory = Unit {0}

-- the characters are read to their end, or not
abbrev pub Reads : {S : Type 0} → List ℕ → Result (Vec Token Global × IndexSet (String Global) S) LexEnd → Type 0
Reads cs (Ok r) = (items : List Item) × (m : ℕ) × Lexes 0 cs items m [] × (r.0.items ≡ tokens_of items) × (bytes_of r.1.keys ≡ first_seen [] (names_in items))
Reads cs (Err e) = Refuses cs e
