-- At a phrase that is reached within a program, the next token tells the right side; and no two right sides begin with one token.
use Rattle.std.specs.Prelude.{ℕ, Bool, true, false, List, [], ◌∷◌, Option, Some, None, ◌≡◌, refl}
use mathlib.Core.Path.{ap, sym, ◌∙◌, subst}
use Rattle.cf_grammar.specs.Grammar.{rules, Among, Derives, token, phrase, Leads, none}
use Rattle.cf_grammar.specs.Refusing.{over, or_later, excess}
use Rattle.cf_grammar.specs.Choosing.{side}
use Rattle.cf_grammar.specs.Laws.{Apart, OneChoice}
use Rattle.cf_grammar.proofs.First.{nullable}
use Rattle.cf_grammar.specs.declared.classes.Class.{Class}
use Rattle.cf_grammar.specs.declared.endings.Fault.{Fault}
use Rattle.cf_grammar.specs.declared.phrases.Phrase.{Phrase}
use Rattle.cf_grammar.specs.declared.phrases.Symbol.{Symbol}
use Rattle.cf_grammar.specs.declared.phrases.Symbol.TheVariants.{Phrase as a}
use Rattle.cf_grammar.proofs.First.{begins, fronts}
use Rattle.cf_grammar.proofs.Logic.{clash, Either, one, two, test}
use Rattle.cf_grammar.proofs.Front
use Rattle.cf_grammar.proofs.Front.{nil_among, Joined, nothing, next, Begun, here, past, begun}
use Rattle.cf_grammar.proofs.Choice.{SamePlace, same_place, only, ByRule, right_side, empty_side, no_side}
use Rattle.cf_grammar.proofs.Prediction.{Told, begins_so, never, told}
use Rattle.cf_grammar.proofs.Stack.{Sound, sound_opened, sound_start}
use Rattle.cf_grammar.proofs.Unique.{sound_after}

-- what is reached from a sound stack is sound
pub sound_leads : {ys zs : List Symbol} {ks : List Class} → Sound ys → Leads ys ks zs → Sound zs
sound_leads s none = s
sound_leads s (token {ys = ys} t l) = sound_leads (sound_after ys t s) l
sound_leads s (phrase {n = n} {ys = ys} i l) = sound_leads (sound_opened n ys i s) l

-- a derivation that opens its first phrase by this right side
abbrev OpensBy : (n : Phrase) (k : Class) (ys : List Symbol) (ks : List Class) → Derives (a n ∷ ys) (k ∷ ks) → List Symbol → Type 0
OpensBy n k ys ks d r = (i : Among r (rules n)) × ByRule n ys (k ∷ ks) i d

by_empty : (n : Phrase) (k : Class) (ys : List Symbol) (ks : List Class) (d : Derives (a n ∷ ys) (k ∷ ks)) → ((s : List Symbol) → Among s (rules n) → fronts begins s k ≡ false) → Either (nullable (rules n) ≡ true) (nullable (rules n) ≡ false) → OpensBy n k ys ks d []
by_empty n k ys ks d q (one e) = let i = nil_among (rules n) e in (i, empty_side n ys i q refl d)
by_empty n k ys ks d q (two e) = absurd (no_side n ys e q d)

by_told : (n : Phrase) (k : Class) (ys : List Symbol) (ks : List Class) (d : Derives (a n ∷ ys) (k ∷ ks)) (r : List Symbol) (b : Bool) → Sound (a n ∷ ys) → Told n k r b → OpensBy n k ys ks d r
by_told n k ys ks d r true s (begins_so i p) = (i, right_side n ys i p (s.0 k ks) refl d)
by_told n k ys ks d r false s (never e q) = subst (OpensBy n k ys ks d) (sym e) (by_empty n k ys ks d q (test (nullable (rules n))))

none_both : (o : Option Fault) (i : ℕ) (later : Option (ℕ × Fault)) → or_later o i later ≡ None → (o ≡ None) × (later ≡ None)
none_both None i later e = (refl, e)
none_both (Some f) i later e = clash (sym (ap (λ o. elim o [ None ↦ true | Some x ↦ false ]) e))

pub one_choice : OneChoice
one_choice before n k ys ks l d =
    let o = by_told n k ys ks d (side n k) _ (sound_leads sound_start l) (told n k) in
    record { right = o.0; rest = o.1.0; opened = o.1.1; within = λ i e. none_both (over n) i (excess o.1.0 i) (ap (λ x. excess x i) (sym o.1.1) ∙ e) }

all_of : (r : List Symbol) → Joined r [] r
all_of [] = nothing
all_of (y ∷ r) = next (all_of r)

no_more : {r : List Symbol} {k : Class} {ks : List Class} → Begun r [] k ks → fronts begins r k ≡ true
no_more (here p) = p
no_more (past n d) = elim d [ ]

same_right : {rs : List (List Symbol)} {r s : List Symbol} {i : Among r rs} {j : Among s rs} → SamePlace r i s j → r ≡ s
same_right same_place = refl

pub no_two : Apart
no_two n k r s i j p q = same_right (only k (Front.apart n k) i (no_more (begun p.1 (all_of r))) j (no_more (begun q.1 (all_of s))))
