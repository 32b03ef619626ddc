-- What a printed form derives at each place where it stands.
use Rattle.std.proofs.Common.{◌≡◌, refl, ap, ℕ, suc, true, false, List, [], ◌∷◌, ◌++◌}
use Rattle.std.specs.Prelude.{if◌then◌else◌}
use Rattle.cf_base.specs.declared.at.At.{At}
use Rattle.cf_lex.specs.declared.marks.Mark.TheVariants as sign
use Rattle.cf_grammar.specs.Grammar.{Takes}
use Rattle.cf_grammar.specs.declared.phrases.Phrase.TheVariants as phrase
use Rattle.cf_grammar.specs.declared.phrases.Symbol.TheVariants.{Phrase as a}
use Rattle.cf_tree.specs.declared.heads.Head.TheVariants as head
use Rattle.cf_tree.specs.Tree.{Binder, Tree}
use Rattle.cf_term.specs.Core.{Tm, AppH, OAppH, cons, nil, node}
use Rattle.cf_parse.specs.Meaning.{Sem, arguments, form, operands}
use Rattle.cf_parse.specs.Meaning as meant
use Rattle.cf_syntax.specs.Tokens.{Token}
use Rattle.cf_elab.specs.Scope.{Globals}
use Rattle.cf_core_text.specs.Names.{Names}
use Rattle.cf_core_text.specs.Pieces.{enclosed, stands}
use Rattle.cf_core_text.specs.declared.pieces.Piece.{Piece}
use Rattle.cf_core_text.specs.declared.pieces.Piece.TheVariants as piece
use Rattle.cf_core_text.specs.declared.pieces.Place.{Place}
use Rattle.cf_core_text.specs.declared.pieces.Place.TheVariants as place
use Rattle.cf_printed.proofs.Deriving.{Gives, Means, Spell, at_of, cut, g_both, g_map, g_none, g_phrase, g_token, means_both, means_none, means_phrase, means_token, token_at}
use Rattle.cf_printed.proofs.Resolving.{Is, is_two}

append_nil : {A : Type 0} (xs : List A) → xs ++ [] ≡ xs
append_nil [] = refl
append_nil (x ∷ xs) = ap (λ l. x ∷ l) (append_nil xs)

module _ (N : Names) (g : Globals) where
  -- a tree that becomes this term
  abbrev pub Tree_of : List Binder → Tm → Type 0
  Tree_of ls u = (t : Tree) × Is g ls t u

  abbrev pub as_term : (ls : List Binder) (u : Tm) → Tree_of ls u → Sem
  as_term ls u x = meant.term x.0

  abbrev pub AsAtom : List Piece → List Binder → Tm → Type 0
  AsAtom ps ls u = (e : ℕ) → Gives N (a (phrase.Atom true e)) ps (as_term ls u)

  abbrev pub AsHead : List Piece → List Binder → Tm → Type 0
  AsHead ps ls u = (e : ℕ) → Gives N (a (phrase.Head true e)) ps (as_term ls u)

  abbrev pub AsApp : List Piece → List Binder → Tm → Type 0
  AsApp ps ls u = (e : ℕ) → Gives N (a (phrase.App true e)) ps (as_term ls u)

  abbrev pub AsChain : List Piece → List Binder → Tm → Type 0
  AsChain ps ls u = (e : ℕ) → Gives N (a (phrase.Chain true e)) ps (as_term ls u)

  abbrev pub AsTerm : List Piece → List Binder → Tm → Type 0
  AsTerm ps ls u = (e : ℕ) → Gives N (a (phrase.Term true e)) ps (as_term ls u)

  -- in front of arguments, and in front of operands
  abbrev pub AsFunction : List Piece → List Binder → Tm → Type 0
  AsFunction ps ls u =
      (e : ℕ) (ks : List Token) (m : Token) (ms : List Token) (t : Token) (ts : List Token) (xs : Sem) → Spell N ps ks (m ∷ ms) → ((k : ℕ) → Means (a (phrase.Args true e k)) (m ∷ ms) xs (t ∷ ts)) →
      (x : At × Tree_of ls u) × Means (a (phrase.App true e)) ks (meant.term (arguments x.0 x.1.0 xs)) (t ∷ ts)

  abbrev pub AsLeft : List Piece → List Binder → Tm → Type 0
  AsLeft ps ls u =
      (e : ℕ) (ks : List Token) (m : Token) (ms : List Token) (t : Token) (ts : List Token) (xs : Sem) → Spell N ps ks (m ∷ ms) → ((k : ℕ) → Means (a (phrase.Operands true e k)) (m ∷ ms) xs (t ∷ ts)) →
      (x : At × Tree_of ls u) × Means (a (phrase.Chain true e)) ks (meant.term (operands x.0 x.1.0 xs)) (t ∷ ts)

  -- by the narrowest place where it stands
  abbrev pub Stands : Place → List Piece → List Binder → Tm → Type 0
  Stands place.Atom ps ls u = AsAtom ps ls u
  Stands place.Application ps ls u = AsFunction ps ls u
  Stands place.Chain ps ls u = AsLeft ps ls u
  Stands place.Term ps ls u = AsTerm ps ls u

  no_arguments : (e k : ℕ) (t : Token) (ts : List Token) → Means (a (phrase.Args true e k)) (t ∷ ts) meant.nothing (t ∷ ts)
  no_arguments e k t ts = means_phrase (phrase.Args true e k) 0 (t ∷ ts) t ts refl (means_none (t ∷ ts))

  no_operands : (e k : ℕ) (t : Token) (ts : List Token) → Means (a (phrase.Operands true e k)) (t ∷ ts) meant.nothing (t ∷ ts)
  no_operands e k t ts = means_phrase (phrase.Operands true e k) 0 (t ∷ ts) t ts refl (means_none (t ∷ ts))

  no_arrow : (e : ℕ) (t : Token) (ts : List Token) → Means (a (phrase.Arrow true e)) (t ∷ ts) meant.nothing (t ∷ ts)
  no_arrow e t ts = means_phrase (phrase.Arrow true e) 0 (t ∷ ts) t ts refl (means_none (t ∷ ts))

  module _ (ls : List Binder) where
    -- an atom is a head, a head is an application, an application is a chain, a chain is a term
    pub atom_head : (ps : List Piece) (u : Tm) → AsAtom ps ls u → AsHead ps ls u
    atom_head ps u h e ks t ts s = let r = h e ks t ts s in (r.0, means_phrase (phrase.Head true e) 0 ks t ts refl (means_both r.1 (means_none (t ∷ ts))))

    pub head_app : (ps : List Piece) (u : Tm) → AsHead ps ls u → AsApp ps ls u
    head_app ps u h e ks t ts s = let r = h e ks t ts s in (r.0, means_phrase (phrase.App true e) 0 ks t ts refl (means_both r.1 (means_both (no_arguments e 0 t ts) (means_none (t ∷ ts)))))

    pub app_chain : (ps : List Piece) (u : Tm) → AsApp ps ls u → AsChain ps ls u
    app_chain ps u h e ks t ts s = let r = h e ks t ts s in (r.0, means_phrase (phrase.Chain true e) 0 ks t ts refl (means_both r.1 (means_both (no_operands e 0 t ts) (means_none (t ∷ ts)))))

    pub chain_term : (ps : List Piece) (u : Tm) → AsChain ps ls u → AsTerm ps ls u
    chain_term ps u h e ks t ts s = let r = h e ks t ts s in (r.0, means_phrase (phrase.Term true e) 8 ks t ts refl (means_both r.1 (means_both (no_arrow e t ts) (means_none (t ∷ ts)))))

    pub atom_chain : (ps : List Piece) (u : Tm) → AsAtom ps ls u → AsChain ps ls u
    atom_chain ps u h = app_chain ps u (head_app ps u (atom_head ps u h))

    pub atom_term : (ps : List Piece) (u : Tm) → AsAtom ps ls u → AsTerm ps ls u
    atom_term ps u h = chain_term ps u (atom_chain ps u h)

    -- an atom in front of arguments
    pub atom_function : (ps : List Piece) (u : Tm) → AsAtom ps ls u → AsFunction ps ls u
    atom_function ps u h e ks m ms t ts xs s f =
        let r = atom_head ps u h e ks m ms s in
        ((at_of ks, r.0), means_phrase (phrase.App true e) 0 ks t ts refl (means_both r.1 (means_both (f 0) (means_none (t ∷ ts)))))

    -- a function in front of no arguments
    pub function_app : (ps : List Piece) (u : Tm) → AsFunction ps ls u → AsApp ps ls u
    function_app ps u h e ks t ts s = let r = h e ks t ts t ts meant.nothing s (λ k. no_arguments e k t ts) in (r.0.1, r.1)

    -- a function with one argument more
    pub applied : (ps qs : List Piece) (u v : Tm) → AsFunction ps ls u → AsAtom qs ls v → AsFunction (ps ++ qs) ls (node (AppH false) (cons u (cons v nil)))
    applied ps qs u v h i e ks m ms t ts xs s f =
        let c = cut N ps qs ks m ms s in
        let y = i e (c.first ∷ c.others) m ms c.back in
        let more = λ (j : ℕ).
        means_phrase (phrase.Args true e j) 1 (c.first ∷ c.others) t ts refl
        (means_both (means_phrase (phrase.Arg true e j) 0 (c.first ∷ c.others) m ms refl (means_both y.1 (means_none (m ∷ ms)))) (means_both (f (suc j)) (means_none (t ∷ ts)))) in
        let r = h e ks c.first c.others t ts (meant.also (meant.argument false y.0.0) xs) c.front more in
        let p : At = r.0.0 in
        ((p, (form p (head.App false) (r.0.1.0 ∷ y.0.0 ∷ []), is_two g ls p (head.App false) r.0.1.0 y.0.0 u v (node (AppH false) (cons u (cons v nil))) r.0.1.1 y.0.1 (λ n. refl))), r.1)

    -- an application in front of operands
    pub app_left : (ps : List Piece) (u : Tm) → AsApp ps ls u → AsLeft ps ls u
    app_left ps u h e ks m ms t ts xs s f =
        let r = h e ks m ms s in
        ((at_of ks, r.0), means_phrase (phrase.Chain true e) 0 ks t ts refl (means_both r.1 (means_both (f 0) (means_none (t ∷ ts)))))

    pub left_chain : (ps : List Piece) (u : Tm) → AsLeft ps ls u → AsChain ps ls u
    left_chain ps u h e ks t ts s = let r = h e ks t ts t ts meant.nothing s (λ k. no_operands e k t ts) in (r.0.1, r.1)

    operand : (e : ℕ) (qs : List Piece) (v : Tm) → AsAtom qs ls v → (ks : List Token) (m : Token) (ms : List Token) (t : Token) (ts : List Token) (xs : Sem) → Spell N (piece.Mark sign.At ∷ qs) ks (m ∷ ms) → ((k : ℕ) → Means (a (phrase.Operands true e k)) (m ∷ ms) xs (t ∷ ts)) →
        (y : Tree_of ls v) × ((k : ℕ) → Means (a (phrase.Operands true e k)) ks (meant.also (meant.term y.0) xs) (t ∷ ts))
    operand e qs v i ks m ms t ts xs (Spell.more {n = n} {ks = us} s) f =
        let y = head_app qs v (atom_head qs v i) e us m ms s in (
          y.0,
          λ k. means_phrase (phrase.Operands true e k) 1 ks t ts refl
              (means_both (means_token (token_at N n (piece.Mark sign.At)) us Takes.exact)
              (means_both (means_phrase (phrase.Operand true e k) 0 us m ms refl (means_both y.1 (means_none (m ∷ ms)))) (means_both (f (suc k)) (means_none (t ∷ ts))))),
        )

    -- one operand more
    pub chained : (ps qs : List Piece) (u v : Tm) → AsLeft ps ls u → AsAtom qs ls v → AsLeft (ps ++ piece.Mark sign.At ∷ qs) ls (node OAppH (cons u (cons v nil)))
    chained ps qs u v h i e ks m ms t ts xs s f =
        let c = cut N ps (piece.Mark sign.At ∷ qs) ks m ms s in
        let y = operand e qs v i (c.first ∷ c.others) m ms t ts xs c.back f in
        let r = h e ks c.first c.others t ts (meant.also (meant.term y.0.0) xs) c.front y.1 in
        let p : At = r.0.0 in
        ((p, (form p head.OApp (r.0.1.0 ∷ y.0.0 ∷ []), is_two g ls p head.OApp r.0.1.0 y.0.0 u v (node OAppH (cons u (cons v nil))) r.0.1.1 y.0.1 (λ n. refl))), r.1)

    -- a form of each class as a term
    pub stands_term : (c : Place) (ps : List Piece) (u : Tm) → Stands c ps ls u → AsTerm ps ls u
    stands_term place.Atom ps u h = atom_term ps u h
    stands_term place.Application ps u h = chain_term ps u (app_chain ps u (function_app ps u h))
    stands_term place.Chain ps u h = chain_term ps u (left_chain ps u h)
    stands_term place.Term ps u h = h

    -- in parentheses it is an atom
    enclosed_atom : (ps : List Piece) (u : Tm) → AsTerm ps ls u → AsAtom (enclosed ps) ls u
    enclosed_atom ps u h e = g_map N
        (g_phrase N (phrase.Atom true e) 4 refl
        (g_token N (piece.Mark sign.OpenParen) (ps ++ piece.Mark sign.CloseParen ∷ []) Takes.exact
        (g_both N ps (piece.Mark sign.CloseParen ∷ []) (h (suc e))
        (g_both N [] (piece.Mark sign.CloseParen ∷ []) (g_phrase N (phrase.Second true e) 0 refl (g_none N))
        (g_token N (piece.Mark sign.CloseParen) [] Takes.exact (g_none N))))))
        (λ x. x.1.1.0) (λ x. refl)

    -- at each place
    pub atom_placed : (c : Place) (ps : List Piece) (u : Tm) → Stands c ps ls u → AsAtom (if stands place.Atom c then ps else enclosed ps) ls u
    atom_placed place.Atom ps u h = h
    atom_placed place.Application ps u h = enclosed_atom ps u (stands_term place.Application ps u h)
    atom_placed place.Chain ps u h = enclosed_atom ps u (stands_term place.Chain ps u h)
    atom_placed place.Term ps u h = enclosed_atom ps u h

    pub function_placed : (c : Place) (ps : List Piece) (u : Tm) → Stands c ps ls u → AsFunction (if stands place.Application c then ps else enclosed ps) ls u
    function_placed place.Atom ps u h = atom_function ps u h
    function_placed place.Application ps u h = h
    function_placed place.Chain ps u h = atom_function (enclosed ps) u (enclosed_atom ps u (stands_term place.Chain ps u h))
    function_placed place.Term ps u h = atom_function (enclosed ps) u (enclosed_atom ps u h)

    atom_app : (ps : List Piece) (u : Tm) → AsAtom ps ls u → AsApp ps ls u
    atom_app ps u h = head_app ps u (atom_head ps u h)

    pub left_placed : (c : Place) (ps : List Piece) (u : Tm) → Stands c ps ls u → AsLeft (if stands place.Chain c then ps else enclosed ps) ls u
    left_placed place.Atom ps u h = app_left ps u (atom_app ps u h)
    left_placed place.Application ps u h = app_left (enclosed ps) u (atom_app (enclosed ps) u (enclosed_atom ps u (stands_term place.Application ps u h)))
    left_placed place.Chain ps u h = h
    left_placed place.Term ps u h = app_left (enclosed ps) u (atom_app (enclosed ps) u (enclosed_atom ps u h))
