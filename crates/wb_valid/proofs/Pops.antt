-- Taking operands one after another, the last of a list first.
use Rattle.std.proofs.Common.{◌≡◌, ℕ, ◌+◌, ◌<◌, refl, sym, ap, ◌∙◌, length, get_or, take, reverse}
use Rattle.std.specs.Prelude.{true, List, [], ◌∷◌, Some}
use Rattle.std.proofs.lemmas.List.{take_more, reverse-append}
use Rattle.wb_valid.specs.Syntax.{NumType}
use Rattle.wb_valid.specs.Operands.{Operands, anything, operands, pops}

-- behind a jump all operands are there
pops_anything : (ts : List NumType) → pops ts anything ≡ Some anything
pops_anything [] = refl
pops_anything (t ∷ ts) = pops_anything ts

pub pops_endless : (ts : List NumType) (o : Operands) → o.known ≡ [] → o.endless ≡ true → pops ts o ≡ Some o
pops_endless ts o e f =
    let same : o ≡ anything = λ i. operands (e i) (f i) in
    ap (pops ts) same ∙ pops_anything ts ∙ ap Some (sym same)

last_first : (types : List NumType) (k : ℕ) (d : NumType) → k < length types → reverse (take (k + 1) types) ≡ get_or types k d ∷ reverse (take k types)
last_first types k d l = ap reverse (take_more types k d l) ∙ reverse-append (take k types) (get_or types k d ∷ [])

-- the last of the first n types is on top
pub pops_last : (types : List NumType) (n k : ℕ) (d : NumType) (o : Operands) → n ≡ k + 1 → k < length types → pops (reverse (take n types)) o ≡ pops (get_or types k d ∷ reverse (take k types)) o
pops_last types n k d o e l = ap (λ j. pops (reverse (take j types)) o) e ∙ ap (λ ts. pops ts o) (last_first types k d l)
