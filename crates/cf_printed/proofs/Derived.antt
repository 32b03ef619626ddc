-- Each printed term derives a tree that becomes the term, marks and `implicit` flags aside.
use Rattle.std.proofs.Common.{◌≡◌, refl, sym, ap, ◌∙◌, subst, arith, ℕ, zero, suc, ◌+◌, ◌-◌, ◌^◌, ◌<◌, true, false, List, [], ◌∷◌, ◌++◌, length, Option, Some, None, inl, inr}
use Rattle.std.proofs.lemmas.Bool.{cases_lt}
use Rattle.std.specs.Prelude.{IsTrue, ℤ, map}
use Rattle.cf_lex.specs.declared.keywords.Keyword.TheVariants as keyword
use Rattle.cf_lex.specs.declared.marks.Mark.TheVariants as sign
use Rattle.cf_grammar.specs.Grammar.{Takes}
use Rattle.cf_grammar.specs.Grammar as grammar
use Rattle.cf_grammar.specs.declared.classes.Class.TheVariants as class
use Rattle.cf_grammar.specs.declared.phrases.Phrase.TheVariants as phrase
use Rattle.cf_tree.specs.declared.heads.Head.TheVariants as head
use Rattle.cf_tree.specs.declared.heads.Op.TheVariants as written
use Rattle.cf_tree.specs.Tree.{Binder}
use Rattle.cf_term.specs.declared.operations.Op.TheVariants as op
use Rattle.cf_term.specs.Core.{Tm, var, node, Tms, nil, cons, Part, parts, first_part, rest_parts, branch_parts, Branch, Head, MetaTyH, ValTyH, CompTyH, TyH, PiH, LamH, AppH, LetH, SigH, PairH, FstH, SndH, UnitTyH, UnitH, UnitRecH, BoolTyH, TrueH, FalseH, BoolRecH, NatTyH, ZeroH, SucH, NatRecH, ListTyH, NilH, ConsH, ListRecH, LiftH, QuoteH, VH, CH, IntTyH, DataH, ArrH, LitH, PrimH, LetVH, LetRecH, OLamH, OAppH, ConH, CaseH, FailH, SpliceH, HoleH, MarkH}
use Rattle.cf_term.specs.Same.{plain, plain_all}
use Rattle.cf_syntax.specs.Numbers.{natlit_of, whole_of, fits_word}
use Rattle.cf_parse.specs.Meaning.{form}
use Rattle.cf_parse.specs.Meaning as meant
use Rattle.cf_elab.specs.Forms.{numeral}
use Rattle.cf_elab.specs.Scope.{Globals}
use Rattle.cf_core_text.specs.Names.{Names, global_name}
use Rattle.cf_core_text.specs.Pieces.{Printed, placed, printed, printed_all, variable}
use Rattle.cf_core_text.specs.Pieces as pieces
use Rattle.cf_core_text.specs.declared.pieces.Piece.{Piece}
use Rattle.cf_core_text.specs.declared.pieces.Piece.TheVariants as piece
use Rattle.cf_core_text.specs.declared.pieces.Place.TheVariants as place
use Rattle.cf_printed.specs.Scoped.{Are, AreAtLeast, AreCtors, AreScoped, IsScoped, IsSmall}
use Rattle.cf_printed.proofs.Deriving.{g_map, g_none, g_phrase, g_token}
use Rattle.cf_printed.proofs.Resolving.{is_zero}
use Rattle.cf_printed.proofs.Placed.{AsAtom, AsHead, AsTerm, Stands, applied, atom_placed, chain_term, app_chain, chained, function_placed, head_app, left_placed, stands_term}
use Rattle.cf_printed.proofs.Worded.{constant, one, two, three, four}
use Rattle.cf_printed.proofs.Forms.{Finds, arrow_form, binder_form, let_form, letrec_form, lift_form, quote_form, sig_form, splice_form, variable_form, variable_global, variable_local}
use Rattle.cf_printed.proofs.Lists.{EachTerm, con_form, data_form}
use Rattle.cf_printed.proofs.Branches.{EachArm, case_form}
use Rattle.cf_printed.proofs.Found.{local_found, locals, past_locals}
use Rattle.cf_printed.proofs.Printable.{successor_of, under_sum}
use Rattle.cf_printed.proofs.Valued.{natlit_value, whole_value}

module _ (N : Names) (g : Globals) (finds : Finds N g) where
  abbrev G : ℕ
  G = length g.variables

  -- a printed form stands for the term; where it is a Nat literal, the term is a numeral
  pub record Derived (f : Printed) (ls : List Binder) (u : Tm) : Type 0 where
    pub stands : Stands N g f.class f.pieces ls u
    pub number : (n : ℕ) → f.number ≡ Some n → u ≡ numeral n

  pub term_of : (ls : List Binder) (f : Printed) (u : Tm) → Derived f ls u → AsTerm N g f.pieces ls u
  term_of ls f u d = stands_term N g ls f.class f.pieces u d.stands

  atom_of : (ls : List Binder) (f : Printed) (u : Tm) → Derived f ls u → AsAtom N g (placed place.Atom f) ls u
  atom_of ls f u d = atom_placed N g ls f.class f.pieces u d.stands

  -- a form that is no Nat literal
  no_number : {u : Tm} (n : ℕ) → None ≡ Some n → u ≡ numeral n
  no_number n e = absurd (cc)

  atom : (ps : List Piece) (ls : List Binder) (u : Tm) → AsAtom N g ps ls u → Derived (pieces.shown place.Atom ps) ls u
  atom ps ls u h = record { stands = h; number = no_number }

  term : (ps : List Piece) (ls : List Binder) (u : Tm) → AsTerm N g ps ls u → Derived (pieces.shown place.Term ps) ls u
  term ps ls u h = record { stands = h; number = no_number }

  headed : (ps : List Piece) (ls : List Binder) (u : Tm) → AsHead N g ps ls u → Derived (pieces.shown place.Term ps) ls u
  headed ps ls u h = term ps ls u (chain_term N g ls ps u (app_chain N g ls ps u (head_app N g ls ps u h)))

  -- numbers
  natlit_form : (ls : List Binder) (n : ℕ) → n < 2 ^ 64 → AsAtom N g (piece.NatLit n ∷ []) ls (numeral n)
  natlit_form ls n h e = g_map N (g_phrase N (phrase.Atom true e) 2 refl (g_token N (piece.NatLit n) [] Takes.exact (g_none N)))
      (λ x. (form x.0 (head.NatLit n) [], is_zero g ls x.0 (head.NatLit n) (numeral n) (λ i. refl)))
      (λ x. ap (λ k. meant.term (form x.0 (head.NatLit k) [])) (natlit_value n h))

  whole_form : (ls : List Binder) (z : ℤ) → IsTrue (fits_word z) → AsAtom N g (piece.Whole z ∷ []) ls (node (LitH z) nil)
  whole_form ls z h e = g_map N (g_phrase N (phrase.Atom true e) 1 refl (g_token N (piece.Whole z) [] Takes.exact (g_none N)))
      (λ x. (form x.0 (head.Lit z) [], is_zero g ls x.0 (head.Lit z) (node (LitH z) nil) (λ i. refl)))
      (λ x. ap (λ k. meant.term (form x.0 (head.Lit k) [])) (whole_value z h))

  literal_d : (ls : List Binder) (n : ℕ) (u : Tm) → n < 2 ^ 64 → numeral n ≡ u → Derived (pieces.literal n) ls u
  literal_d ls n u h e = record { stands = subst (AsAtom N g (piece.NatLit n ∷ []) ls) e (natlit_form ls n h); number = λ m q. let k : n ≡ m = cc in sym e ∙ ap numeral k }

  successor_d : (ls : List Binder) (o : Option ℕ) (f : Printed) (u : Tm) → Derived f ls u → ((n : ℕ) → o ≡ Some n → u ≡ numeral n) → IsSmall (successor_of o f).number → Derived (successor_of o f) ls (node SucH (cons u nil))
  successor_d ls (Some n) f u d k s = literal_d ls (suc n) (node SucH (cons u nil)) s (ap (λ t. node SucH (cons t nil)) (sym (k n refl)))
  successor_d ls None f u d k s = headed (piece.Word keyword.Suc ∷ (placed place.Atom f ++ [])) ls (node SucH (cons u nil)) (one N g ls keyword.Suc 4 head.Suc (placed place.Atom f) u (node SucH (cons u nil)) (λ e. refl) (λ e. refl) refl (λ n. refl) (atom_of ls f u d))

  -- variables
  variable_d : (m d i : ℕ) → d ≡ G + m → d < G + 2 ^ 64 → i < d → AsAtom N g (variable G (d - suc i) ∷ []) (locals m) (var i)
  variable_d m d i q h l = elim (cases_lt i m) [
    | inl k ↦
        let e : variable G (d - suc i) ≡ piece.Local (m - suc i) = variable_local G (d - suc i) (m - suc i) (omega arith) in
        let f = local_found m (m - suc i) (map Some g.variables) (omega arith) (omega arith) in
        let n : m - suc (m - suc i) ≡ i = omega arith in
        subst (λ p. AsAtom N g (p ∷ []) (locals m) (var i)) (sym e) (variable_form N g (locals m) (piece.Local (m - suc i)) false i refl (f ∙ ap Some n))
    | inr k ↦
        let j : d - suc i < G = omega arith in
        let e : variable G (d - suc i) ≡ piece.Global (d - suc i) = variable_global G (d - suc i) j in
        let f = finds.globals (d - suc i) j in
        let n : m + (G - suc (d - suc i)) ≡ i = omega arith in
        subst (λ p. AsAtom N g (p ∷ []) (locals m) (var i)) (sym e)
        (variable_form N g (locals m) (piece.Global (d - suc i)) true i (ap class.Name f.0) (past_locals m (G - suc (d - suc i)) (global_name N (d - suc i)) (map Some g.variables) f.0 f.1 ∙ ap Some n))
  ]

  -- each printed part stands for the part beside it
  abbrev AllDerived : (m : ℕ) → List Part → List Printed → Tms → Type 0
  AllDerived m ps [] nil = Unit {0}
  AllDerived m ps (f ∷ fs) (cons u us) = Derived f (locals (pieces.under m (first_part ps).binds)) u × AllDerived m (rest_parts ps) fs us
  AllDerived m ps _ _ = ⊥

  each_term : (m : ℕ) (fs : List Printed) (us : Tms) → AllDerived m [] fs us → EachTerm N g (locals m) fs us
  each_term m [] nil h = tt
  each_term m [] (cons u us) h = absurd h
  each_term m (f ∷ fs) nil h = absurd h
  each_term m (f ∷ fs) (cons u us) h = (term_of (locals m) f u h.0, each_term m fs us h.1)

  plain_at_least : (k : ℕ) (ts : Tms) → AreAtLeast k ts → AreAtLeast k (plain_all ts)
  plain_at_least zero ts h = tt
  plain_at_least (suc k) nil h = absurd h
  plain_at_least (suc k) (cons t ts) h = plain_at_least k ts h

  each_arm : (m d : ℕ) (bs : List Branch) (ts : Tms) → AreCtors g bs → Are (length bs) ts → AllDerived m (branch_parts bs) (printed_all G d (branch_parts bs) ts) (plain_all ts) → EachArm N g finds m bs (printed_all G d (branch_parts bs) ts) (plain_all ts)
  each_arm m d [] nil c l h = tt
  each_arm m d [] (cons t ts) c l h = absurd l
  each_arm m d (b ∷ bs) nil c l h = absurd l
  each_arm m d (b ∷ bs) (cons t ts) c l h = (term_of (locals (pieces.under m b.names)) (printed G (pieces.under d b.names) t) (plain t) h.0, c.0, each_arm m d bs ts c.1 l h.1)

  -- a form whose parts are derived
  abbrev Form_d : (m d : ℕ) → Head → Tms → Type 0
  Form_d m d h ts = IsScoped g d (node h ts) → AllDerived m (parts h) (printed_all G d (parts h) ts) (plain_all ts) → Derived (printed G d (node h ts)) (locals m) (plain (node h ts))

  letrec_one : (m d : ℕ) → d ≡ G + m → (ts : Tms) → Form_d m d (LetRecH 1) ts
  letrec_one m d q (cons a (cons b (cons c nil))) s r =
      term _ (locals m) _ (letrec_form N g (node (LetRecH 1) (cons (plain a) (cons (plain b) (cons (plain c) nil)))) m d q (printed G d a).pieces (printed G (suc d) b).pieces (printed G (suc d) c).pieces (plain a) (plain b) (plain c) (λ i. refl)
      (term_of (locals m) (printed G d a) (plain a) r.0) (term_of (locals (suc m)) (printed G (suc d) b) (plain b) r.1.0) (term_of (locals (suc m)) (printed G (suc d) c) (plain c) r.1.1.0))
  letrec_one m d q nil s r = absurd s.2
  letrec_one m d q (cons a nil) s r = absurd s.2
  letrec_one m d q (cons a (cons b nil)) s r = absurd s.2
  letrec_one m d q (cons a (cons b (cons c (cons e ts)))) s r = absurd s.2

  form_d : (m d : ℕ) → d ≡ G + m → (h : Head) (ts : Tms) → Form_d m d h ts
  form_d m d q MetaTyH nil s r = atom _ (locals m) _ (constant N g (locals m) keyword.MetaTy 7 head.MetaTy (node MetaTyH nil) (λ e. refl) (λ e. refl) refl (λ n. refl))
  form_d m d q ValTyH nil s r = atom _ (locals m) _ (constant N g (locals m) keyword.ValTy 8 head.ValTy (node ValTyH nil) (λ e. refl) (λ e. refl) refl (λ n. refl))
  form_d m d q CompTyH nil s r = atom _ (locals m) _ (constant N g (locals m) keyword.CompTy 9 head.CompTy (node CompTyH nil) (λ e. refl) (λ e. refl) refl (λ n. refl))
  form_d m d q TyH nil s r = atom _ (locals m) _ (constant N g (locals m) keyword.Ty 10 head.Ty (node TyH nil) (λ e. refl) (λ e. refl) refl (λ n. refl))
  form_d m d q UnitTyH nil s r = atom _ (locals m) _ (constant N g (locals m) keyword.UnitTy 11 head.UnitTy (node UnitTyH nil) (λ e. refl) (λ e. refl) refl (λ n. refl))
  form_d m d q UnitH nil s r = atom _ (locals m) _ (constant N g (locals m) keyword.Unit 12 head.Unit (node UnitH nil) (λ e. refl) (λ e. refl) refl (λ n. refl))
  form_d m d q BoolTyH nil s r = atom _ (locals m) _ (constant N g (locals m) keyword.BoolTy 13 head.BoolTy (node BoolTyH nil) (λ e. refl) (λ e. refl) refl (λ n. refl))
  form_d m d q TrueH nil s r = atom _ (locals m) _ (constant N g (locals m) keyword.True 14 head.True (node TrueH nil) (λ e. refl) (λ e. refl) refl (λ n. refl))
  form_d m d q FalseH nil s r = atom _ (locals m) _ (constant N g (locals m) keyword.False 15 head.False (node FalseH nil) (λ e. refl) (λ e. refl) refl (λ n. refl))
  form_d m d q NatTyH nil s r = atom _ (locals m) _ (constant N g (locals m) keyword.NatTy 16 head.NatTy (node NatTyH nil) (λ e. refl) (λ e. refl) refl (λ n. refl))
  form_d m d q IntTyH nil s r = atom _ (locals m) _ (constant N g (locals m) keyword.IntTy 18 head.IntTy (node IntTyH nil) (λ e. refl) (λ e. refl) refl (λ n. refl))
  form_d m d q FailH (cons a nil) s r = headed _ (locals m) _ (one N g (locals m) keyword.Fail 1 head.Fail (placed place.Atom (printed G d a)) (plain a) (node FailH (cons (plain a) nil)) (λ e. refl) (λ e. refl) refl (λ n. refl) (atom_of (locals m) (printed G d a) (plain a) r.0))
  form_d m d q FstH (cons a nil) s r = headed _ (locals m) _ (one N g (locals m) keyword.Fst 2 head.Fst (placed place.Atom (printed G d a)) (plain a) (node FstH (cons (plain a) nil)) (λ e. refl) (λ e. refl) refl (λ n. refl) (atom_of (locals m) (printed G d a) (plain a) r.0))
  form_d m d q SndH (cons a nil) s r = headed _ (locals m) _ (one N g (locals m) keyword.Snd 3 head.Snd (placed place.Atom (printed G d a)) (plain a) (node SndH (cons (plain a) nil)) (λ e. refl) (λ e. refl) refl (λ n. refl) (atom_of (locals m) (printed G d a) (plain a) r.0))
  form_d m d q ListTyH (cons a nil) s r = headed _ (locals m) _ (one N g (locals m) keyword.ListTy 5 head.ListTy (placed place.Atom (printed G d a)) (plain a) (node ListTyH (cons (plain a) nil)) (λ e. refl) (λ e. refl) refl (λ n. refl) (atom_of (locals m) (printed G d a) (plain a) r.0))
  form_d m d q NilH (cons a nil) s r = headed _ (locals m) _ (one N g (locals m) keyword.Nil 6 head.Nil (placed place.Atom (printed G d a)) (plain a) (node NilH (cons (plain a) nil)) (λ e. refl) (λ e. refl) refl (λ n. refl) (atom_of (locals m) (printed G d a) (plain a) r.0))
  form_d m d q VH (cons a nil) s r = headed _ (locals m) _ (one N g (locals m) keyword.V 7 head.V (placed place.Atom (printed G d a)) (plain a) (node VH (cons (plain a) nil)) (λ e. refl) (λ e. refl) refl (λ n. refl) (atom_of (locals m) (printed G d a) (plain a) r.0))
  form_d m d q CH (cons a nil) s r = headed _ (locals m) _ (one N g (locals m) keyword.C 8 head.C (placed place.Atom (printed G d a)) (plain a) (node CH (cons (plain a) nil)) (λ e. refl) (λ e. refl) refl (λ n. refl) (atom_of (locals m) (printed G d a) (plain a) r.0))
  form_d m d q ConsH (cons a (cons b nil)) s r = headed _ (locals m) _ (two N g (locals m) keyword.Cons 9 head.Cons (placed place.Atom (printed G d a)) (placed place.Atom (printed G d b)) (plain a) (plain b) (node ConsH (cons (plain a) (cons (plain b) nil))) (λ e. refl) (λ e. refl) refl (λ n. refl) (atom_of (locals m) (printed G d a) (plain a) r.0) (atom_of (locals m) (printed G d b) (plain b) r.1.0))
  form_d m d q (PrimH op.Add) (cons a (cons b nil)) s r = headed _ (locals m) _ (two N g (locals m) keyword.Add 10 (head.Prim written.Add) (placed place.Atom (printed G d a)) (placed place.Atom (printed G d b)) (plain a) (plain b) (node (PrimH op.Add) (cons (plain a) (cons (plain b) nil))) (λ e. refl) (λ e. refl) refl (λ n. refl) (atom_of (locals m) (printed G d a) (plain a) r.0) (atom_of (locals m) (printed G d b) (plain b) r.1.0))
  form_d m d q (PrimH op.Sub) (cons a (cons b nil)) s r = headed _ (locals m) _ (two N g (locals m) keyword.Sub 11 (head.Prim written.Sub) (placed place.Atom (printed G d a)) (placed place.Atom (printed G d b)) (plain a) (plain b) (node (PrimH op.Sub) (cons (plain a) (cons (plain b) nil))) (λ e. refl) (λ e. refl) refl (λ n. refl) (atom_of (locals m) (printed G d a) (plain a) r.0) (atom_of (locals m) (printed G d b) (plain b) r.1.0))
  form_d m d q (PrimH op.Mul) (cons a (cons b nil)) s r = headed _ (locals m) _ (two N g (locals m) keyword.Mul 12 (head.Prim written.Mul) (placed place.Atom (printed G d a)) (placed place.Atom (printed G d b)) (plain a) (plain b) (node (PrimH op.Mul) (cons (plain a) (cons (plain b) nil))) (λ e. refl) (λ e. refl) refl (λ n. refl) (atom_of (locals m) (printed G d a) (plain a) r.0) (atom_of (locals m) (printed G d b) (plain b) r.1.0))
  form_d m d q (PrimH op.Div) (cons a (cons b nil)) s r = headed _ (locals m) _ (two N g (locals m) keyword.Div 13 (head.Prim written.Div) (placed place.Atom (printed G d a)) (placed place.Atom (printed G d b)) (plain a) (plain b) (node (PrimH op.Div) (cons (plain a) (cons (plain b) nil))) (λ e. refl) (λ e. refl) refl (λ n. refl) (atom_of (locals m) (printed G d a) (plain a) r.0) (atom_of (locals m) (printed G d b) (plain b) r.1.0))
  form_d m d q (PrimH op.Rem) (cons a (cons b nil)) s r = headed _ (locals m) _ (two N g (locals m) keyword.Rem 14 (head.Prim written.Rem) (placed place.Atom (printed G d a)) (placed place.Atom (printed G d b)) (plain a) (plain b) (node (PrimH op.Rem) (cons (plain a) (cons (plain b) nil))) (λ e. refl) (λ e. refl) refl (λ n. refl) (atom_of (locals m) (printed G d a) (plain a) r.0) (atom_of (locals m) (printed G d b) (plain b) r.1.0))
  form_d m d q (PrimH op.Eq) (cons a (cons b nil)) s r = headed _ (locals m) _ (two N g (locals m) keyword.Eq 15 (head.Prim written.Eq) (placed place.Atom (printed G d a)) (placed place.Atom (printed G d b)) (plain a) (plain b) (node (PrimH op.Eq) (cons (plain a) (cons (plain b) nil))) (λ e. refl) (λ e. refl) refl (λ n. refl) (atom_of (locals m) (printed G d a) (plain a) r.0) (atom_of (locals m) (printed G d b) (plain b) r.1.0))
  form_d m d q (PrimH op.Lt) (cons a (cons b nil)) s r = headed _ (locals m) _ (two N g (locals m) keyword.Lt 16 (head.Prim written.Lt) (placed place.Atom (printed G d a)) (placed place.Atom (printed G d b)) (plain a) (plain b) (node (PrimH op.Lt) (cons (plain a) (cons (plain b) nil))) (λ e. refl) (λ e. refl) refl (λ n. refl) (atom_of (locals m) (printed G d a) (plain a) r.0) (atom_of (locals m) (printed G d b) (plain b) r.1.0))
  form_d m d q PairH (cons a (cons b (cons c nil))) s r = headed _ (locals m) _ (three N g (locals m) keyword.Pair 17 head.Pair (placed place.Atom (printed G d a)) (placed place.Atom (printed G d b)) (placed place.Atom (printed G d c)) (plain a) (plain b) (plain c) (node PairH (cons (plain a) (cons (plain b) (cons (plain c) nil)))) (λ e. refl) (λ e. refl) refl (λ n. refl) (atom_of (locals m) (printed G d a) (plain a) r.0) (atom_of (locals m) (printed G d b) (plain b) r.1.0) (atom_of (locals m) (printed G d c) (plain c) r.1.1.0))
  form_d m d q UnitRecH (cons a (cons b (cons c nil))) s r = headed _ (locals m) _ (three N g (locals m) keyword.UnitRec 18 head.UnitRec (placed place.Atom (printed G d a)) (placed place.Atom (printed G d b)) (placed place.Atom (printed G d c)) (plain a) (plain b) (plain c) (node UnitRecH (cons (plain a) (cons (plain b) (cons (plain c) nil)))) (λ e. refl) (λ e. refl) refl (λ n. refl) (atom_of (locals m) (printed G d a) (plain a) r.0) (atom_of (locals m) (printed G d b) (plain b) r.1.0) (atom_of (locals m) (printed G d c) (plain c) r.1.1.0))
  form_d m d q BoolRecH (cons a (cons b (cons c (cons e nil)))) s r = headed _ (locals m) _ (four N g (locals m) keyword.BoolRec 19 head.BoolRec (placed place.Atom (printed G d a)) (placed place.Atom (printed G d b)) (placed place.Atom (printed G d c)) (placed place.Atom (printed G d e)) (plain a) (plain b) (plain c) (plain e) (node BoolRecH (cons (plain a) (cons (plain b) (cons (plain c) (cons (plain e) nil))))) (λ e. refl) (λ e. refl) refl (λ n. refl) (atom_of (locals m) (printed G d a) (plain a) r.0) (atom_of (locals m) (printed G d b) (plain b) r.1.0) (atom_of (locals m) (printed G d c) (plain c) r.1.1.0) (atom_of (locals m) (printed G d e) (plain e) r.1.1.1.0))
  form_d m d q NatRecH (cons a (cons b (cons c (cons e nil)))) s r = headed _ (locals m) _ (four N g (locals m) keyword.NatRec 20 head.NatRec (placed place.Atom (printed G d a)) (placed place.Atom (printed G d b)) (placed place.Atom (printed G d c)) (placed place.Atom (printed G d e)) (plain a) (plain b) (plain c) (plain e) (node NatRecH (cons (plain a) (cons (plain b) (cons (plain c) (cons (plain e) nil))))) (λ e. refl) (λ e. refl) refl (λ n. refl) (atom_of (locals m) (printed G d a) (plain a) r.0) (atom_of (locals m) (printed G d b) (plain b) r.1.0) (atom_of (locals m) (printed G d c) (plain c) r.1.1.0) (atom_of (locals m) (printed G d e) (plain e) r.1.1.1.0))
  form_d m d q ListRecH (cons a (cons b (cons c (cons e nil)))) s r = headed _ (locals m) _ (four N g (locals m) keyword.ListRec 21 head.ListRec (placed place.Atom (printed G d a)) (placed place.Atom (printed G d b)) (placed place.Atom (printed G d c)) (placed place.Atom (printed G d e)) (plain a) (plain b) (plain c) (plain e) (node ListRecH (cons (plain a) (cons (plain b) (cons (plain c) (cons (plain e) nil))))) (λ e. refl) (λ e. refl) refl (λ n. refl) (atom_of (locals m) (printed G d a) (plain a) r.0) (atom_of (locals m) (printed G d b) (plain b) r.1.0) (atom_of (locals m) (printed G d c) (plain c) r.1.1.0) (atom_of (locals m) (printed G d e) (plain e) r.1.1.1.0))
  form_d m d q (PiH i) (cons a (cons b nil)) s r = term _ (locals m) _ (binder_form N g 5 (piece.Word keyword.Pi) (grammar.word keyword.Pi) (λ e. phrase.PiBinder true e) sign.Arrow (head.Pi false) meant.function_type (node (PiH false) (cons (plain a) (cons (plain b) nil))) Takes.exact (λ e. refl) (λ e. refl) (λ e. refl) (λ e. refl) (λ p k l b s t. refl) m d q (printed G d a).pieces (printed G (suc d) b).pieces (plain a) (plain b) (λ i. refl) (term_of (locals m) (printed G d a) (plain a) r.0) (term_of (locals (suc m)) (printed G (suc d) b) (plain b) r.1.0))
  form_d m d q (LamH i) (cons a (cons b nil)) s r = term _ (locals m) _ (binder_form N g 0 (piece.Mark sign.Backslash) (grammar.sign sign.Backslash) (λ e. phrase.Lambda true e) sign.Dot (head.Lam false) meant.lambda (node (LamH false) (cons (plain a) (cons (plain b) nil))) Takes.exact (λ e. refl) (λ e. refl) (λ e. refl) (λ e. refl) (λ p k l b s t. refl) m d q (printed G d a).pieces (printed G (suc d) b).pieces (plain a) (plain b) (λ i. refl) (term_of (locals m) (printed G d a) (plain a) r.0) (term_of (locals (suc m)) (printed G (suc d) b) (plain b) r.1.0))
  form_d m d q OLamH (cons a (cons b nil)) s r = term _ (locals m) _ (binder_form N g 1 (piece.Word keyword.Fn) (grammar.word keyword.Fn) (λ e. phrase.Fn true e) sign.Dot head.OLam meant.function (node OLamH (cons (plain a) (cons (plain b) nil))) Takes.exact (λ e. refl) (λ e. refl) (λ e. refl) (λ e. refl) (λ p k l b s t. refl) m d q (printed G d a).pieces (printed G (suc d) b).pieces (plain a) (plain b) (λ i. refl) (term_of (locals m) (printed G d a) (plain a) r.0) (term_of (locals (suc m)) (printed G (suc d) b) (plain b) r.1.0))
  form_d m d q LetH (cons a (cons b (cons c nil))) s r = term _ (locals m) _ (let_form N g 2 keyword.MetaLet head.Let (node LetH (cons (plain a) (cons (plain b) (cons (plain c) nil)))) (λ e. refl) (λ e. refl) m d q (printed G d a).pieces (printed G d b).pieces (printed G (suc d) c).pieces (plain a) (plain b) (plain c) (λ i. refl) (term_of (locals m) (printed G d a) (plain a) r.0) (term_of (locals m) (printed G d b) (plain b) r.1.0) (term_of (locals (suc m)) (printed G (suc d) c) (plain c) r.1.1.0))
  form_d m d q LetVH (cons a (cons b (cons c nil))) s r = term _ (locals m) _ (let_form N g 3 keyword.Let head.LetV (node LetVH (cons (plain a) (cons (plain b) (cons (plain c) nil)))) (λ e. refl) (λ e. refl) m d q (printed G d a).pieces (printed G d b).pieces (printed G (suc d) c).pieces (plain a) (plain b) (plain c) (λ i. refl) (term_of (locals m) (printed G d a) (plain a) r.0) (term_of (locals m) (printed G d b) (plain b) r.1.0) (term_of (locals (suc m)) (printed G (suc d) c) (plain c) r.1.1.0))
  form_d m d q SigH (cons a (cons b nil)) s r = term _ (locals m) _ (sig_form N g m d q (printed G d a).pieces (printed G (suc d) b).pieces (plain a) (plain b) (term_of (locals m) (printed G d a) (plain a) r.0) (term_of (locals (suc m)) (printed G (suc d) b) (plain b) r.1.0))
  form_d m d q (LetRecH n) ts s r = subst (λ k. (us : Tms) → Form_d m d (LetRecH k) us) (sym s.1) (letrec_one m d q) ts s r
  form_d m d q (AppH i) (cons a (cons b nil)) s r = record { stands = applied N g (locals m) (placed place.Application (printed G d a)) (placed place.Atom (printed G d b)) (plain a) (plain b) (function_placed N g (locals m) (printed G d a).class (printed G d a).pieces (plain a) r.0.stands) (atom_of (locals m) (printed G d b) (plain b) r.1.0); number = no_number }
  form_d m d q OAppH (cons a (cons b nil)) s r = record { stands = chained N g (locals m) (placed place.Chain (printed G d a)) (placed place.Atom (printed G d b)) (plain a) (plain b) (left_placed N g (locals m) (printed G d a).class (printed G d a).pieces (plain a) r.0.stands) (atom_of (locals m) (printed G d b) (plain b) r.1.0); number = no_number }
  form_d m d q ArrH (cons a (cons b nil)) s r = term _ (locals m) _ (arrow_form N g (locals m) (placed place.Atom (printed G d a)) (printed G d b).pieces (plain a) (plain b) (atom_of (locals m) (printed G d a) (plain a) r.0) (term_of (locals m) (printed G d b) (plain b) r.1.0))
  form_d m d q QuoteH (cons a nil) s r = atom _ (locals m) _ (quote_form N g (locals m) (printed G d a).pieces (plain a) (term_of (locals m) (printed G d a) (plain a) r.0))
  form_d m d q SpliceH (cons a nil) s r = atom _ (locals m) _ (splice_form N g (locals m) (placed place.Atom (printed G d a)) (plain a) (atom_of (locals m) (printed G d a) (plain a) r.0))
  form_d m d q LiftH (cons a nil) s r = atom _ (locals m) _ (lift_form N g (locals m) (placed place.Atom (printed G d a)) (plain a) (atom_of (locals m) (printed G d a) (plain a) r.0))
  form_d m d q ZeroH nil s r = literal_d (locals m) 0 (node ZeroH nil) s.3 refl
  form_d m d q SucH (cons a nil) s r = successor_d (locals m) (printed G d a).number (printed G d a) (plain a) r.0 r.0.number s.3
  form_d m d q (LitH z) nil s r = atom _ (locals m) _ (whole_form (locals m) z s.1)
  form_d m d q (DataH n) ts s r = atom _ (locals m) _ (data_form N g (locals m) n (finds.types n s.1) (printed_all G d [] ts) (plain_all ts) (each_term m (printed_all G d [] ts) (plain_all ts) r))
  form_d m d q (ConH n c k) ts s r = atom _ (locals m) _ (con_form N g (locals m) finds n c k s.1 (printed_all G d [] ts) (plain_all ts) (plain_at_least k ts s.2) (each_term m (printed_all G d [] ts) (plain_all ts) r))
  form_d m d q (CaseH bs) (cons a (cons b ts)) s r = term _ (locals m) _ (case_form N g finds m d q (printed G d a).pieces (printed G d b).pieces (plain a) (plain b) (term_of (locals m) (printed G d a) (plain a) r.0) (term_of (locals m) (printed G d b) (plain b) r.1.0) bs (printed_all G d (branch_parts bs) ts) (plain_all ts) (each_arm m d bs ts s.1 s.2 r.1.1))
  form_d m d q MarkH (cons a nil) s r = r.0
  form_d m d q (HoleH k) ts s r = absurd s.1
  form_d m d q h ts s r = absurd s.2

  mutual
    pub derive : (m d : ℕ) → d ≡ G + m → (t : Tm) → IsScoped g d t → Derived (printed G d t) (locals m) (plain t)
    derive m d q (var i) s = atom (variable G (d - suc i) ∷ []) (locals m) (var i) (variable_d m d i q s.0 s.1)
    derive m d q (node h ts) s = form_d m d q h ts s (derive_all m d q (parts h) ts s.4)

    derive_all : (m d : ℕ) → d ≡ G + m → (ps : List Part) (ts : Tms) → AreScoped g d ps ts → AllDerived m ps (printed_all G d ps ts) (plain_all ts)
    derive_all m d q ps nil s = tt
    derive_all m d q ps (cons t ts) s =
        let k : ℕ = (first_part ps).binds in
        let e : pieces.under d k ≡ d + k = under_sum d k in
        let f : pieces.under m k ≡ m + k = under_sum m k in
        (derive (pieces.under m k) (pieces.under d k) (omega (arith, q, e, f)) t s.0, derive_all m d q (rest_parts ps) ts s.1)
