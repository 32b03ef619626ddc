-- Functions and their codes, joined one by one.
use Rattle.std.proofs.Common.{◌≡◌, ℕ, ◌<◌, refl, sym, ap, ◌∙◌, append_assoc, arith}
use Rattle.std.proofs.lemmas.List.{length-drop}
use Rattle.std.specs.Prelude.{List, [], ◌∷◌, ◌++◌, reverse, drop, length, Option, Some, None}
use Rattle.wb_syntax.specs.declared.syntax.Func.{Func}
use Rattle.wb_syntax.specs.Binary.{Coded, joined}

-- these functions before others
abbrev pub append_to : List Func → Option (List Func) → Option (List Func)
append_to fs None = None
append_to fs (Some more) = Some (fs ++ more)

pub append_none : (o : Option (List Func)) → append_to [] o ≡ o
append_none None = refl
append_none (Some fs) = refl

append_more : (fs : List Func) (f : Func) (o : Option (List Func)) → append_to fs (elim o [ None ↦ None | Some more ↦ Some (f ∷ more) ]) ≡ append_to (fs ++ f ∷ []) o
append_more fs f None = refl
append_more fs f (Some more) = ap Some (sym (append_assoc fs (f ∷ []) more))

-- one more function
pub one_more : (fs : List Func) (t : ℕ) (ts : List ℕ) (c : Coded) (cs : List Coded) → append_to fs (joined (t ∷ ts) (c ∷ cs)) ≡ append_to (fs ++ record { ty = t; locals = c.0; body = c.1 } ∷ []) (joined ts cs)
one_more fs t ts c cs = append_more fs (record { ty = t; locals = c.0; body = c.1 }) (joined ts cs)

short : (ts : List ℕ) → 0 < length ts → joined ts [] ≡ None
short [] h = absurd (omega (arith, h))
short (t ∷ ts) h = refl

-- a function has no code
pub no_code : (fs : List Func) (ts : List ℕ) (i : ℕ) (cs : List Coded) (whole : Option (List Func)) → i < length ts → append_to fs (joined (drop i ts) (reverse cs)) ≡ whole → cs ≡ [] → whole ≡ None
no_code fs ts i cs whole l h e =
    let more : 0 < length (drop i ts) = omega (arith, l, length-drop i ts) in
    sym h ∙ ap (λ xs. append_to fs (joined (drop i ts) (reverse xs))) e ∙ ap (append_to fs) (short (drop i ts) more)
