-- Local variables before global ones.
use Rattle.std.proofs.Common.{◌≡◌, refl, ap, sym, ◌∙◌, ℕ, suc, cond, List, [], ◌∷◌, ◌++◌, map, length, position, Option, Some, option_map}
use Rattle.std.specs.Str.{bytes_eq}
use Rattle.cf_tree.specs.Tree.{Name, Binder}
use Rattle.cf_elab.specs.Scope.{Globals, is_named, variable_of}
use Rattle.cf_elab.proofs.Places.{place, position_place, first, place_append}

place_globals : (x : Name) (vs : List Name) → place (is_named x) (map Some vs) ≡ place (bytes_eq x) vs
place_globals x [] = refl
place_globals x (v ∷ vs) = ap (λ o. cond (bytes_eq x v) (Some 0) (option_map suc o)) (place_globals x vs)

pub variable_first : (g : Globals) (ls : List Binder) (x : Name) (o o' : Option ℕ)
    → o ≡ position (is_named x) ls → o' ≡ position (bytes_eq x) g.variables → variable_of g ls x ≡ first (is_named x) o (length ls) o'
variable_first g ls x o o' e e' =
    position_place (is_named x) (ls ++ map Some g.variables) ∙ place_append (is_named x) ls (map Some g.variables)
    ∙ (λ i. first (is_named x) ((sym (position_place (is_named x) ls) ∙ sym e) i) (length ls) ((place_globals x g.variables ∙ sym (position_place (bytes_eq x) g.variables) ∙ sym e') i))
