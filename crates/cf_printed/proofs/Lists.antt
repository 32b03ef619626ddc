-- Lists of terms, data types, constructors and branches, as printed tokens that derive them.
use Rattle.std.proofs.Common.{◌≡◌, refl, ap, ◌∙◌, subst, append_assoc, ℕ, zero, suc, true, false, List, [], ◌∷◌, ◌++◌, length, take, drop, Some}
use Rattle.cf_lex.specs.declared.keywords.Keyword.TheVariants as keyword
use Rattle.cf_lex.specs.declared.marks.Mark.TheVariants as sign
use Rattle.cf_grammar.specs.Grammar.{Takes}
use Rattle.cf_grammar.specs.declared.phrases.Phrase.TheVariants as phrase
use Rattle.cf_grammar.specs.declared.phrases.Symbol.TheVariants.{Phrase as a}
use Rattle.cf_tree.specs.Tree as trees
use Rattle.cf_tree.specs.Tree.{Binder, Named, Plain, Tree, Trees, tree}
use Rattle.cf_term.specs.Core.{Tms, cons, nil, node, ConH, DataH}
use Rattle.cf_syntax.specs.Places.{place}
use Rattle.cf_parse.specs.Meaning.{Sem, arms_in, binders_in, parts, terms_in}
use Rattle.cf_parse.specs.Meaning as meant
use Rattle.cf_elab.specs.Scope.{Globals, type_of}
use Rattle.cf_core_text.specs.Names.{Names, ctor_name, type_name}
use Rattle.cf_core_text.specs.Pieces.{Printed, bracketed, further, listed}
use Rattle.cf_core_text.specs.declared.pieces.Piece.{Piece}
use Rattle.cf_core_text.specs.declared.pieces.Piece.TheVariants as piece
use Rattle.cf_printed.specs.Scoped.{AreAtLeast, IsCtor}
use Rattle.cf_printed.proofs.Deriving.{Gives, g_both, g_last, g_map, g_none, g_phrase, g_same, g_token}
use Rattle.cf_printed.proofs.Forms.{Finds}
use Rattle.cf_printed.proofs.Placed.{AsAtom, AsTerm}
use Rattle.cf_printed.proofs.Resolving.{AreAll, Is, are_none, are_part, is_construction, is_data}

append_nil : {A : Type 0} (xs : List A) → xs ++ [] ≡ xs
append_nil [] = refl
append_nil (x ∷ xs) = ap (λ l. x ∷ l) (append_nil xs)

-- how many parts there are
abbrev count : Tms → ℕ
count nil = 0
count (cons t ts) = suc (count ts)

-- parts one behind the other
abbrev pub joined : Tms → Tms → Tms
joined nil us = us
joined (cons t ts) us = cons t (joined ts us)

abbrev pub front : ℕ → Tms → Tms
front zero ts = nil
front (suc k) nil = nil
front (suc k) (cons t ts) = cons t (front k ts)

abbrev pub back : ℕ → Tms → Tms
back zero ts = ts
back (suc k) nil = nil
back (suc k) (cons t ts) = back k ts

front_back : (k : ℕ) (ts : Tms) → joined (front k ts) (back k ts) ≡ ts
front_back zero ts = refl
front_back (suc k) nil = refl
front_back (suc k) (cons t ts) = ap (cons t) (front_back k ts)

front_count : (k : ℕ) (ts : Tms) → AreAtLeast k ts → count (front k ts) ≡ k
front_count zero ts h = refl
front_count (suc k) nil h = absurd h
front_count (suc k) (cons t ts) h = ap suc (front_count k ts h)

module _ (N : Names) (g : Globals) (ls : List Binder) where
  -- each tree becomes the term beside it
  abbrev pub EachIs : List Tree → Tms → Type 0
  EachIs [] nil = Unit {0}
  EachIs (t ∷ ts) (cons u us) = Is g ls t u × EachIs ts us
  EachIs _ _ = ⊥

  pub each_are : (ts : List Tree) (us : Tms) → EachIs ts us → AreAll g ls (parts ts) [] us
  each_are [] nil h = are_none g ls
  each_are [] (cons u us) h = absurd h
  each_are (t ∷ ts) nil h = absurd h
  each_are (t ∷ ts) (cons u us) h = are_part g ls [] t (parts ts) [] u us h.0 (each_are ts us h.1)

  each_length : (ts : List Tree) (us : Tms) → EachIs ts us → length ts ≡ count us
  each_length [] nil h = refl
  each_length [] (cons u us) h = absurd h
  each_length (t ∷ ts) nil h = absurd h
  each_length (t ∷ ts) (cons u us) h = ap suc (each_length ts us h.1)

  each_joined : (ts ss : List Tree) (us ws : Tms) → EachIs ts us → EachIs ss ws → EachIs (ts ++ ss) (joined us ws)
  each_joined [] ss nil ws h k = k
  each_joined [] ss (cons u us) ws h k = absurd h
  each_joined (t ∷ ts) ss nil ws h k = absurd h
  each_joined (t ∷ ts) ss (cons u us) ws h k = (h.0, each_joined ts ss us ws h.1 k)

  -- each printed form is the term beside it
  abbrev pub EachTerm : List Printed → Tms → Type 0
  EachTerm [] nil = Unit {0}
  EachTerm (f ∷ fs) (cons u us) = AsTerm N g f.pieces ls u × EachTerm fs us
  EachTerm _ _ = ⊥

  front_terms : (k : ℕ) (fs : List Printed) (us : Tms) → EachTerm fs us → EachTerm (take k fs) (front k us)
  front_terms zero fs us h = tt
  front_terms (suc k) [] nil h = tt
  front_terms (suc k) [] (cons u us) h = absurd h
  front_terms (suc k) (f ∷ fs) nil h = absurd h
  front_terms (suc k) (f ∷ fs) (cons u us) h = (h.0, front_terms k fs us h.1)

  back_terms : (k : ℕ) (fs : List Printed) (us : Tms) → EachTerm fs us → EachTerm (drop k fs) (back k us)
  back_terms zero fs us h = h
  back_terms (suc k) [] nil h = tt
  back_terms (suc k) [] (cons u us) h = absurd h
  back_terms (suc k) (f ∷ fs) nil h = absurd h
  back_terms (suc k) (f ∷ fs) (cons u us) h = back_terms k fs us h.1

  -- a meaning that is these terms
  abbrev pub Terms_of : Tms → Type 0
  Terms_of us = (v : Sem) × EachIs (terms_in v) us

  more_terms : (fs : List Printed) (us : Tms) → EachTerm fs us → (e : ℕ) → Gives N (a (phrase.MoreTerms true e)) (further fs) {A = Terms_of us} (λ x. x.0)
  more_terms [] nil h e = g_map N (g_phrase N (phrase.MoreTerms true e) 0 refl (g_none N)) (λ x. (meant.nothing, tt)) (λ x. refl)
  more_terms [] (cons u us) h e = absurd h
  more_terms (f ∷ fs) nil h e = absurd h
  more_terms (f ∷ fs) (cons u us) h e = g_map N
      (g_phrase N (phrase.MoreTerms true e) 1 refl
      (g_token N (piece.Mark sign.Comma) (f.pieces ++ further fs) Takes.exact (g_both N f.pieces (further fs) (h.0 (suc e)) (g_last N (further fs) (more_terms fs us h.1 e)))))
      (λ x. (meant.also (meant.term x.1.1.0.0) x.1.1.1.0, (x.1.1.0.1, x.1.1.1.1)))
      (λ x. refl)

  pub terms_form : (fs : List Printed) (us : Tms) → EachTerm fs us → (e : ℕ) → Gives N (a (phrase.Terms true e)) (listed fs) {A = Terms_of us} (λ x. x.0)
  terms_form [] nil h e = g_map N (g_phrase N (phrase.Terms true e) 0 refl (g_none N)) (λ x. (meant.nothing, tt)) (λ x. refl)
  terms_form [] (cons u us) h e = absurd h
  terms_form (f ∷ fs) nil h e = absurd h
  terms_form (f ∷ fs) (cons u us) h e = g_map N
      (g_phrase N (phrase.Terms true e) 1 refl (g_both N f.pieces (further fs) (h.0 (suc e)) (g_last N (further fs) (more_terms fs us h.1 e))))
      (λ x. (meant.also (meant.term x.1.0.0) x.1.1.0, (x.1.0.1, x.1.1.1)))
      (λ x. refl)

  -- D[..]
  pub data_form : (n : ℕ) → type_of g (type_name N n) ≡ Some n → (fs : List Printed) (us : Tms) → EachTerm fs us → AsAtom N g (piece.DataType n ∷ bracketed fs []) ls (node (DataH n) us)
  data_form n q fs us h e = g_map N
      (g_phrase N (phrase.Atom true e) 0 refl
      (g_token N (piece.DataType n) (bracketed fs []) Takes.any_name
      (g_last N (bracketed fs [])
      (g_phrase N (phrase.Brackets true e) 1 refl
      (g_token N (piece.Mark sign.OpenBracket) _ Takes.exact
      (g_both N (listed fs) (piece.Mark sign.CloseBracket ∷ []) (terms_form fs us h e) (g_token N (piece.Mark sign.CloseBracket) [] Takes.exact (g_none N))))))))
      (λ x. let d : Named = record { at = place false x.1.0; name = type_name N n } in
      (tree x.0 (trees.DataAt d) (parts (terms_in x.1.1.1.1.0.0)), is_data g ls x.0 d (parts (terms_in x.1.1.1.1.0.0)) n us q (each_are (terms_in x.1.1.1.1.0.0) us x.1.1.1.1.0.1)))
      (λ x. refl)

  -- con c[..](..)
  pub con_form : (finds : Finds N g) (n c k : ℕ) → IsCtor g n c → (fs : List Printed) (us : Tms) → AreAtLeast k us → EachTerm fs us →
      AsAtom N g (piece.Word keyword.Con ∷ piece.Ctor n c ∷ bracketed (take k fs) (piece.Fields ∷ (listed (drop k fs) ++ piece.Mark sign.CloseParen ∷ []))) ls (node (ConH n c k) us)
  con_form finds n c k i fs us l h e =
      let found = finds.ctors n c i in
      let fields : List Piece = piece.Fields ∷ (listed (drop k fs) ++ piece.Mark sign.CloseParen ∷ []) in
      let brackets : List Piece = piece.Mark sign.OpenBracket ∷ (listed (take k fs) ++ piece.Mark sign.CloseBracket ∷ []) in
      g_same N (ap (λ z. piece.Word keyword.Con ∷ piece.Ctor n c ∷ piece.Mark sign.OpenBracket ∷ z) (append_assoc (listed (take k fs)) (piece.Mark sign.CloseBracket ∷ []) fields))
      (g_map N
      (g_phrase N (phrase.Atom true e) 3 refl
      (g_token N (piece.Word keyword.Con) (piece.Ctor n c ∷ (brackets ++ fields)) Takes.exact
      (g_token N (piece.Ctor n c) (brackets ++ fields) Takes.any_name
      (g_both N brackets fields
      (g_phrase N (phrase.ConBrackets true e) 0 refl
      (g_token N (piece.Mark sign.OpenBracket) _ Takes.exact
      (g_both N (listed (take k fs)) (piece.Mark sign.CloseBracket ∷ []) (terms_form (take k fs) (front k us) (front_terms k fs us h) e) (g_token N (piece.Mark sign.CloseBracket) [] Takes.exact (g_none N)))))
      (g_token N piece.Fields _ Takes.exact
      (g_both N (listed (drop k fs)) (piece.Mark sign.CloseParen ∷ []) (terms_form (drop k fs) (back k us) (back_terms k fs us h) e) (g_token N (piece.Mark sign.CloseParen) [] Takes.exact (g_none N))))))))
      (λ x.
      let d : Named = record { at = place false x.1.1.0; name = ctor_name N n c } in
      let ps : List Tree = terms_in x.1.1.1.0.1.1.0.0 in
      let ts : List Tree = terms_in x.1.1.1.1.1.0.0 in
      let both : EachIs (ps ++ ts) us = subst (EachIs (ps ++ ts)) (front_back k us) (each_joined ps ts (front k us) (back k us) x.1.1.1.0.1.1.0.1 x.1.1.1.1.1.0.1) in (
        tree x.0 (trees.ConAt d (Some (length ps))) (parts (ps ++ ts)),
        is_construction g ls x.0 d (parts (ps ++ ts)) found.0 n c k (length ps) us found.1 found.2 found.3 (each_length ps (front k us) x.1.1.1.0.1.1.0.1 ∙ front_count k us l) (each_are (ps ++ ts) us both),
      ))
      (λ x. refl))
