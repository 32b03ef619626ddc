-- The program that tokens within the limits are.
use Rattle.std.proofs.Common.{◌≡◌, refl, ap, sym, arith, ℕ, zero, suc, Bool, List, [], ◌∷◌, length, Some, None}
use Rattle.cf_base.specs.declared.at.At.{At}
use Rattle.cf_tree.specs.Tree as trees
use Rattle.cf_grammar.specs.Grammar.{IsProgram, Takes, start}
use Rattle.cf_grammar.specs.Grammar as grammar
use Rattle.cf_grammar.specs.Refusing.{excess}
use Rattle.cf_grammar.specs.declared.classes.Class.{Class}
use Rattle.cf_grammar.specs.declared.classes.Class.TheVariants as class
use Rattle.cf_grammar.specs.declared.phrases.Phrase.TheVariants.{Program}
use Rattle.cf_grammar.specs.declared.phrases.Symbol.{Symbol}
use Rattle.cf_grammar.specs.declared.phrases.Symbol.TheVariants.{Is as is, Phrase as a}
use Rattle.cf_syntax.specs.Checks.{AllInRange}
use Rattle.cf_parse.proofs.Deriving.{grow, GrowAll, Grows, both, token, empty, phrase, parses, limits}
use Rattle.cf_parse.proofs.Deriving as grown
use Rattle.cf_syntax.proofs.Cases.{none_some, some_inj}
use Rattle.cf_parse.specs.Derivation.{Cst, Csts}
use Rattle.cf_syntax.specs.Places.{place}
use Rattle.cf_parse.specs.Meaning.{Sem, after_explicit, after_use, program_in, program_of, run, values, without_head, empty as empty_action}
use Rattle.cf_parse.specs.Reads.{ReadsTokens}
use Rattle.cf_syntax.specs.Tokens.{Token, classes}

counted : (b : Bool) {r : List Symbol} {cs : Csts} {ks ls : List Token} → GrowAll r cs ks ls → (n : ℕ) → length r ≡ n → length (values b cs) ≡ n
counted b grown.GrowAll.none n e = e
counted b (both g h) zero e = absurd (omega (arith, e))
counted b (both g h) (suc n) e = ap suc (counted b h n (omega (arith, e)))

two : (p : At) (vs : List Sem) → length vs ≡ 2 → (q : trees.Program) × (program_in (run (Some without_head) p vs) ≡ Some q)
two p [] e = absurd (omega (arith, e))
two p (v ∷ []) e = absurd (omega (arith, e))
two p (v ∷ w ∷ []) e = (_, refl)
two p (v ∷ w ∷ x ∷ vs) e = absurd (omega (arith, e))

three : (p : At) (vs : List Sem) → length vs ≡ 3 → (q : trees.Program) × (program_in (run (Some after_explicit) p vs) ≡ Some q)
three p [] e = absurd (omega (arith, e))
three p (v ∷ []) e = absurd (omega (arith, e))
three p (v ∷ w ∷ []) e = absurd (omega (arith, e))
three p (v ∷ w ∷ x ∷ []) e = (_, refl)
three p (v ∷ w ∷ x ∷ y ∷ vs) e = absurd (omega (arith, e))

four : (p : At) (vs : List Sem) → length vs ≡ 4 → (q : trees.Program) × (program_in (run (Some after_use) p vs) ≡ Some q)
four p [] e = absurd (omega (arith, e))
four p (v ∷ []) e = absurd (omega (arith, e))
four p (v ∷ w ∷ []) e = absurd (omega (arith, e))
four p (v ∷ w ∷ x ∷ []) e = absurd (omega (arith, e))
four p (v ∷ w ∷ x ∷ y ∷ []) e = (_, refl)
four p (v ∷ w ∷ x ∷ y ∷ z ∷ vs) e = absurd (omega (arith, e))

pub is_program : (b : Bool) {c : Cst} {ks ls : List Token} → Grows (a Program) c ks ls → (q : trees.Program) × (program_of b c ≡ Some q)
is_program b (token t q) = elim t [ ]
is_program b (empty o e q z) = (_, refl)
is_program b (phrase {w = zero} {cs = cs} {k = k} o e q g) = three (place b k.at) (values b cs) (counted b g 3 (ap length (sym (some_inj q))))
is_program b (phrase {w = suc zero} {cs = cs} {k = k} o e q g) = four (place b k.at) (values b cs) (counted b g 4 (ap length (sym (some_inj q))))
is_program b (phrase {w = suc (suc zero)} {cs = cs} {k = k} o e q g) = two (place b k.at) (values b cs) (counted b g 2 (ap length (sym (some_inj q))))
is_program b (phrase {w = suc (suc (suc zero))} {cs = cs} {k = k} o e q g) = no_values (values b cs) (counted b g 0 (ap length (sym (some_inj q))))
  where
    no_values : (vs : List Sem) → length vs ≡ 0 → (q : trees.Program) × (program_in (run (Some empty_action) (place b k.at) vs) ≡ Some q)
    no_values [] e = (_, refl)
    no_values (v ∷ vs) e = absurd (omega (arith, e))
is_program b (phrase {w = suc (suc (suc (suc w)))} o e q g) = none_some q

pub record Whole (b : Bool) (ks : List Token) : Type 0 where
  pub cst : Cst
  pub last : Token
  pub grows : Grows (a Program) cst ks (last ∷ [])
  pub ends : last.class ≡ class.End
  pub program : trees.Program
  pub reads : ReadsTokens b ks program

ends_here : {c : Class} → Takes (is class.End) c → c ≡ class.End
ends_here grammar.exact = refl

pub whole : (b : Bool) (ks : List Token) → (d : IsProgram (classes ks)) → excess d 0 ≡ None → AllInRange ks → Whole b ks
whole b ks d e h = ended (grow ks 0 grammar.none refl d e refl h).grow
  where
    ended : {cs : Csts} → GrowAll start cs ks [] → Whole b ks
    ended (both {c = c} g (both (token {k = k} t q) grown.GrowAll.none)) =
        let p = is_program b g in
        record { cst = c; last = k; grows = g; ends = ends_here t; program = p.0; reads = record { unlimited = record { cst = c; end_token = k; parses = parses g; ends = ends_here t; means = p.1 }; limits = limits g } }
