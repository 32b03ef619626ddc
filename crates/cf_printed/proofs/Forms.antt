-- The forms with binders, lists and branches, as printed tokens that derive them.
use Rattle.std.proofs.Common.{◌≡◌, refl, sym, ap, ◌∙◌, subst, arith, append_assoc, le-ltb, lt-ltb, ℕ, suc, ◌+◌, ◌-◌, ◌<◌, Bool, true, false, List, [], ◌∷◌, ◌++◌, length, map, Some}
use Rattle.std.specs.Prelude.{slice_get, if◌then◌else◌, position}
use Rattle.cf_base.specs.declared.at.At.{At}
use Rattle.cf_lex.specs.Spelling.{keyword_text}
use Rattle.cf_lex.specs.declared.keywords.Keyword.{Keyword}
use Rattle.cf_lex.specs.declared.keywords.Keyword.TheVariants as keyword
use Rattle.cf_lex.specs.declared.marks.Mark.{Mark}
use Rattle.cf_lex.specs.declared.marks.Mark.TheVariants as sign
use Rattle.cf_grammar.specs.Grammar.{Takes, rules, typed, word}
use Rattle.cf_grammar.specs.Grammar as grammar
use Rattle.cf_grammar.specs.declared.classes.Class.TheVariants as class
use Rattle.cf_grammar.specs.declared.phrases.Phrase.{Phrase}
use Rattle.cf_grammar.specs.declared.phrases.Phrase.TheVariants as phrase
use Rattle.cf_grammar.specs.declared.phrases.Symbol.{Symbol}
use Rattle.cf_grammar.specs.declared.phrases.Symbol.TheVariants.{AnyName as NAME, Phrase as a}
use Rattle.cf_tree.specs.declared.heads.Head.{Head}
use Rattle.cf_tree.specs.declared.heads.Head.TheVariants as head
use Rattle.cf_tree.specs.Tree as trees
use Rattle.cf_tree.specs.Tree.{Binder, Named, Plain, Tree, Trees, tree}
use Rattle.cf_term.specs.Core.{Tm, cons, nil, node, var, ArrH, LiftH, QuoteH, SigH, SpliceH}
use Rattle.cf_syntax.specs.Places.{place}
use Rattle.cf_parse.specs.Meaning.{Action, Sem, actions, arms_in, binders_in, form, parts, run, terms_in}
use Rattle.cf_parse.specs.Meaning as meant
use Rattle.cf_elab.specs.Forms.{formed}
use Rattle.cf_elab.specs.Resolving.{As}
use Rattle.cf_elab.specs.Scope.{Globals, ctor_of, type_of, variable_of, is_named}
use Rattle.cf_elab.specs.declared.numbers.CtorNumber.{CtorNumber}
use Rattle.cf_core_text.specs.Names.{Names, ctor_name, global_name, type_name}
use Rattle.cf_core_text.specs.Pieces.{variable}
use Rattle.cf_core_text.specs.Text.{mark_text, spelling}
use Rattle.cf_core_text.specs.declared.pieces.Piece.{Piece}
use Rattle.cf_core_text.specs.declared.pieces.Piece.TheVariants as piece
use Rattle.cf_syntax.specs.Tokens.{begins_plain}
use Rattle.cf_printed.specs.Scoped.{IsCtor}
use Rattle.cf_printed.proofs.Deriving.{Gives, GivesAll, class_of, g_both, g_last, g_map, g_none, g_phrase, g_same, g_token}
use Rattle.cf_printed.proofs.Placed.{AsAtom, AsTerm, Tree_of, atom_chain}
use Rattle.cf_printed.proofs.Resolving.{is_bound, is_defined, is_one, is_two, is_variable}
use Rattle.cf_printed.proofs.Found.{local_name, locals}

append_nil : {A : Type 0} (xs : List A) → xs ++ [] ≡ xs
append_nil [] = refl
append_nil (x ∷ xs) = ap (λ l. x ∷ l) (append_nil xs)

-- a variable by its number: a local one, or a global
pub variable_local : (v d m : ℕ) → d ≡ v + m → variable v d ≡ piece.Local m
variable_local v d m e =
    let k : d - v ≡ m = omega arith in
    ap (λ b. if b then piece.Global d else piece.Local (d - v)) (le-ltb d v (omega arith)) ∙ ap piece.Local k

pub variable_global : (v d : ℕ) → d < v → variable v d ≡ piece.Global d
variable_global v d h = ap (λ b. if b then piece.Global d else piece.Local (d - v)) (lt-ltb d v h)

-- each name that is printed is found
pub record Finds (N : Names) (g : Globals) : Type 0 where
  pub globals : (n : ℕ) → n < length g.variables → (begins_plain (global_name N n) ≡ true) × (position (is_named (global_name N n)) (map Some g.variables) ≡ Some (length g.variables - suc n))
  pub types : (n : ℕ) → n < length g.types → type_of g (type_name N n) ≡ Some n
  pub ctors : (n c : ℕ) → IsCtor g n c → (k : CtorNumber) × (ctor_of g (ctor_name N n c) ≡ Some k) × (k.data_type ≡ n) × (k.ctor ≡ c)

-- the meaning of a mark that begins at byte n
abbrev mark_at : ℕ → Mark → Sem
mark_at n z = meant.token (place false n) (class.Mark z) (mark_text z)

module _ (N : Names) (g : Globals) where
  abbrev G : ℕ
  G = length g.variables

  -- a binder
  pub binder_g : (m d : ℕ) → d ≡ G + m → Gives N (a phrase.Binder) (variable G d ∷ []) {A = Unit {0}} (λ x. meant.binder (Some (local_name m)))
  binder_g m d e = g_same N (ap (λ p. p ∷ []) (sym (variable_local G d m e)))
      (g_map N (g_phrase N phrase.Binder 0 refl (g_token N (piece.Local m) [] Takes.any_name (g_none N))) (λ x. tt) (λ x. refl))

  -- (x : A)
  domain_g : (n : Phrase) (e : ℕ) → slice_get (rules n) 0 ≡ Some (typed sign.OpenParen sign.CloseParen true e) → slice_get (actions n) 0 ≡ Some (meant.typed false) → (m d : ℕ) → d ≡ G + m → (ps : List Piece) (t : Tm) → AsTerm N g ps (locals m) t →
      Gives N (a n) (piece.Mark sign.OpenParen ∷ variable G d ∷ piece.Mark sign.Colon ∷ (ps ++ piece.Mark sign.CloseParen ∷ [])) {A = Tree_of N g (locals m) t} (λ x. meant.domain false (Some (local_name m)) (Some x.0))
  domain_g n e r c m d q ps t h = g_map N
      (g_phrase N n 0 r
      (g_token N (piece.Mark sign.OpenParen) _ Takes.exact
      (g_both N (variable G d ∷ []) (piece.Mark sign.Colon ∷ (ps ++ piece.Mark sign.CloseParen ∷ [])) (binder_g m d q)
      (g_token N (piece.Mark sign.Colon) _ Takes.exact
      (g_both N ps (piece.Mark sign.CloseParen ∷ []) (h (suc e))
      (g_token N (piece.Mark sign.CloseParen) [] Takes.exact (g_none N)))))))
      (λ x. x.1.1.1.1.0)
      (λ x. ap (λ o. run o x.0 (mark_at x.1.0 sign.OpenParen ∷ meant.binder (Some (local_name m)) ∷ mark_at x.1.1.1.0 sign.Colon ∷ meant.term x.1.1.1.1.0.0 ∷ mark_at x.1.1.1.1.1.0 sign.CloseParen ∷ [])) c)

  -- a form with a binder between parentheses, a mark, and a part under the variable
  pub binder_form : (w : ℕ) (q : Piece) (y : Symbol) (n : ℕ → Phrase) (mk : Mark) (h : Head) (f : Action) (v : Tm) → Takes y (class_of N q) →
      ((e : ℕ) → slice_get (rules (phrase.Term true e)) w ≡ Some (y ∷ a (n e) ∷ grammar.sign mk ∷ a (phrase.Term true (suc e)) ∷ [])) →
      ((e : ℕ) → slice_get (rules (n e)) 0 ≡ Some (typed sign.OpenParen sign.CloseParen true e)) →
      ((e : ℕ) → slice_get (actions (n e)) 0 ≡ Some (meant.typed false)) →
      ((e : ℕ) → slice_get (actions (phrase.Term true e)) w ≡ Some f) →
      ((p : At) (k l : Sem) (b : Binder) (s t : Tree) → f p (k ∷ meant.domain false b (Some s) ∷ l ∷ meant.term t ∷ []) ≡ meant.bound p h s b t) →
      (m d : ℕ) → d ≡ G + m → (ps qs : List Piece) (t u : Tm) → ((i : ℕ) → formed h [] (cons t (cons u nil)) i ≡ As v i) →
      AsTerm N g ps (locals m) t → AsTerm N g qs (locals (suc m)) u →
      AsTerm N g (q ∷ piece.Mark sign.OpenParen ∷ variable G d ∷ piece.Mark sign.Colon ∷ (ps ++ piece.Mark sign.CloseParen ∷ piece.Mark mk ∷ qs)) (locals m) v
  binder_form w q y n mk h f v tk r rn cn c act m d e ps qs t u k s z i = g_same N
      (ap (λ l. q ∷ piece.Mark sign.OpenParen ∷ variable G d ∷ piece.Mark sign.Colon ∷ l) (append_assoc ps (piece.Mark sign.CloseParen ∷ []) (piece.Mark mk ∷ qs)))
      (g_map N
      (g_phrase N (phrase.Term true i) w (r i)
      (g_token N q ((piece.Mark sign.OpenParen ∷ variable G d ∷ piece.Mark sign.Colon ∷ (ps ++ piece.Mark sign.CloseParen ∷ [])) ++ (piece.Mark mk ∷ qs)) tk
      (g_both N (piece.Mark sign.OpenParen ∷ variable G d ∷ piece.Mark sign.Colon ∷ (ps ++ piece.Mark sign.CloseParen ∷ [])) (piece.Mark mk ∷ qs) (domain_g (n i) i (rn i) (cn i) m d e ps t s)
      (g_token N (piece.Mark mk) qs Takes.exact
      (g_last N qs (z (suc i)))))))
      (λ x. (
        tree x.0 (Plain h) (trees.part [] x.1.1.0.0 (trees.part (Some (local_name m) ∷ []) x.1.1.1.1.0 trees.none)),
        is_bound g (locals m) x.0 h (Some (local_name m)) x.1.1.0.0 x.1.1.1.1.0 t u v x.1.1.0.1 x.1.1.1.1.1 k,
      ))
      (λ x.
      let k : Sem = meant.token (place false x.1.0) (class_of N q) (spelling N q) in
      ap (λ o. run o x.0 (k ∷ meant.domain false (Some (local_name m)) (Some x.1.1.0.0) ∷ mark_at x.1.1.1.0 mk ∷ meant.term x.1.1.1.1.0 ∷ [])) (c i) ∙ act x.0 k (mark_at x.1.1.1.0 mk) (Some (local_name m)) x.1.1.0.0 x.1.1.1.1.0))

  -- what a definition is, and the meanings of its symbols
  abbrev Definition : (m : ℕ) → List Binder → (s t u : Tm) → Type 0
  Definition m l s t u = Unit {0} × (ℕ × (Tree_of N g (locals m) s × (ℕ × (Tree_of N g l t × (ℕ × Tree_of N g (locals (suc m)) u)))))

  abbrev defined_as : (m : ℕ) (l : List Binder) (s t u : Tm) → Definition m l s t u → List Sem
  defined_as m l s t u x = meant.binder (Some (local_name m)) ∷ mark_at x.1.0 sign.Colon ∷ meant.term x.1.1.0.0 ∷ mark_at x.1.1.1.0 sign.Becomes ∷ meant.term x.1.1.1.1.0.0 ∷ mark_at x.1.1.1.1.1.0 sign.Semicolon ∷ meant.term x.1.1.1.1.1.1.0 ∷ []

  -- a definition of a variable and a part under it; what the variable stands for may be under it too
  definition_g : (m d e : ℕ) → d ≡ G + m → (l : List Binder) (ps qs rs : List Piece) (s t u : Tm) → AsTerm N g ps (locals m) s → AsTerm N g qs l t → AsTerm N g rs (locals (suc m)) u →
      GivesAll N (a phrase.Binder ∷ grammar.sign sign.Colon ∷ a (phrase.Term true e) ∷ grammar.sign sign.Becomes ∷ a (phrase.Term true e) ∷ grammar.sign sign.Semicolon ∷ a (phrase.Term true e) ∷ [])
      (variable G d ∷ piece.Mark sign.Colon ∷ (ps ++ piece.Mark sign.Becomes ∷ (qs ++ piece.Mark sign.Semicolon ∷ rs)))
      {A = Definition m l s t u} (λ x. defined_as m l s t u x)
  definition_g m d e q l ps qs rs s t u h i j =
      g_both N (variable G d ∷ []) (piece.Mark sign.Colon ∷ (ps ++ piece.Mark sign.Becomes ∷ (qs ++ piece.Mark sign.Semicolon ∷ rs))) (binder_g m d q)
      (g_token N (piece.Mark sign.Colon) (ps ++ piece.Mark sign.Becomes ∷ (qs ++ piece.Mark sign.Semicolon ∷ rs)) Takes.exact
      (g_both N ps (piece.Mark sign.Becomes ∷ (qs ++ piece.Mark sign.Semicolon ∷ rs)) (h e)
      (g_token N (piece.Mark sign.Becomes) (qs ++ piece.Mark sign.Semicolon ∷ rs) Takes.exact
      (g_both N qs (piece.Mark sign.Semicolon ∷ rs) (i e)
      (g_token N (piece.Mark sign.Semicolon) rs Takes.exact (g_last N rs (j e)))))))

  pub let_form : (w : ℕ) (y : Keyword) (h : Head) (v : Tm) →
      ((e : ℕ) → slice_get (rules (phrase.Term true e)) w ≡ Some (word y ∷ grammar.defined true e)) →
      ((e : ℕ) → slice_get (actions (phrase.Term true e)) w ≡ Some (meant.definition h)) →
      (m d : ℕ) → d ≡ G + m → (ps qs rs : List Piece) (s t u : Tm) → ((i : ℕ) → formed h [] (cons s (cons t (cons u nil))) i ≡ As v i) →
      AsTerm N g ps (locals m) s → AsTerm N g qs (locals m) t → AsTerm N g rs (locals (suc m)) u →
      AsTerm N g (piece.Word y ∷ variable G d ∷ piece.Mark sign.Colon ∷ (ps ++ piece.Mark sign.Becomes ∷ (qs ++ piece.Mark sign.Semicolon ∷ rs))) (locals m) v
  let_form w y h v r c m d q ps qs rs s t u f i j k e = g_map N
      (g_phrase N (phrase.Term true e) w (r e) (g_token N (piece.Word y) _ Takes.exact (definition_g m d (suc e) q (locals m) ps qs rs s t u i j k)))
      (λ x. (
        tree x.0 (Plain h) (trees.part [] x.1.1.1.1.0.0 (trees.part [] x.1.1.1.1.1.1.0.0 (trees.part (Some (local_name m) ∷ []) x.1.1.1.1.1.1.1.1.0 trees.none))),
        is_defined g (locals m) [] x.0 h (Some (local_name m)) x.1.1.1.1.0.0 x.1.1.1.1.1.1.0.0 x.1.1.1.1.1.1.1.1.0 s t u v x.1.1.1.1.0.1 x.1.1.1.1.1.1.0.1 x.1.1.1.1.1.1.1.1.1 f,
      ))
      (λ x. ap (λ o. run o x.0 (meant.token (place false x.1.0) (class.Word y) (keyword_text y) ∷ defined_as m (locals m) s t u x.1.1)) (c e))

  pub letrec_form : (v : Tm) (m d : ℕ) → d ≡ G + m → (ps qs rs : List Piece) (s t u : Tm) → ((i : ℕ) → formed head.LetRec [] (cons s (cons t (cons u nil))) i ≡ As v i) →
      AsTerm N g ps (locals m) s → AsTerm N g qs (locals (suc m)) t → AsTerm N g rs (locals (suc m)) u →
      AsTerm N g (piece.Word keyword.LetRec ∷ variable G d ∷ piece.Mark sign.Colon ∷ (ps ++ piece.Mark sign.Becomes ∷ (qs ++ piece.Mark sign.Semicolon ∷ rs))) (locals m) v
  letrec_form v m d q ps qs rs s t u f i j k e = g_map N
      (g_phrase N (phrase.Term true e) 4 refl (g_token N (piece.Word keyword.LetRec) _ Takes.exact (definition_g m d (suc e) q (locals (suc m)) ps qs rs s t u i j k)))
      (λ x. (
        tree x.0 (Plain head.LetRec) (trees.part [] x.1.1.1.1.0.0 (trees.part (Some (local_name m) ∷ []) x.1.1.1.1.1.1.0.0 (trees.part (Some (local_name m) ∷ []) x.1.1.1.1.1.1.1.1.0 trees.none))),
        is_defined g (locals m) (Some (local_name m) ∷ []) x.0 head.LetRec (Some (local_name m)) x.1.1.1.1.0.0 x.1.1.1.1.1.1.0.0 x.1.1.1.1.1.1.1.1.0 s t u v x.1.1.1.1.0.1 x.1.1.1.1.1.1.0.1 x.1.1.1.1.1.1.1.1.1 f,
      ))
      (λ x. refl)

  -- Sig (x : A) , B
  pub sig_form : (m d : ℕ) → d ≡ G + m → (ps qs : List Piece) (t u : Tm) → AsTerm N g ps (locals m) t → AsTerm N g qs (locals (suc m)) u →
      AsTerm N g (piece.Word keyword.Sig ∷ piece.Mark sign.OpenParen ∷ variable G d ∷ piece.Mark sign.Colon ∷ (ps ++ piece.Mark sign.CloseParen ∷ piece.Mark sign.Comma ∷ qs)) (locals m) (node SigH (cons t (cons u nil)))
  sig_form m d q ps qs t u h i e = g_map N
      (g_phrase N (phrase.Term true e) 6 refl
      (g_token N (piece.Word keyword.Sig) _ Takes.exact
      (g_token N (piece.Mark sign.OpenParen) _ Takes.exact
      (g_both N (variable G d ∷ []) (piece.Mark sign.Colon ∷ (ps ++ piece.Mark sign.CloseParen ∷ piece.Mark sign.Comma ∷ qs)) (binder_g m d q)
      (g_token N (piece.Mark sign.Colon) _ Takes.exact
      (g_both N ps (piece.Mark sign.CloseParen ∷ piece.Mark sign.Comma ∷ qs) (h (suc e))
      (g_token N (piece.Mark sign.CloseParen) _ Takes.exact
      (g_token N (piece.Mark sign.Comma) qs Takes.exact (g_last N qs (i (suc e)))))))))))
      (λ x. (
        tree x.0 (Plain head.Sig) (trees.part [] x.1.1.1.1.1.0.0 (trees.part (Some (local_name m) ∷ []) x.1.1.1.1.1.1.1.1.0 trees.none)),
        is_bound g (locals m) x.0 head.Sig (Some (local_name m)) x.1.1.1.1.1.0.0 x.1.1.1.1.1.1.1.1.0 t u (node SigH (cons t (cons u nil))) x.1.1.1.1.1.0.1 x.1.1.1.1.1.1.1.1.1 (λ n. refl),
      ))
      (λ x. refl)

  module _ (ls : List Binder) where
    -- A => B
    pub arrow_form : (ps qs : List Piece) (t u : Tm) → AsAtom N g ps ls t → AsTerm N g qs ls u → AsTerm N g (ps ++ piece.Mark sign.DoubleArrow ∷ qs) ls (node ArrH (cons t (cons u nil)))
    arrow_form ps qs t u h i e = g_map N
        (g_phrase N (phrase.Term true e) 8 refl
        (g_both N ps (piece.Mark sign.DoubleArrow ∷ qs) (atom_chain N g ls ps t h e)
        (g_last N (piece.Mark sign.DoubleArrow ∷ qs) (g_phrase N (phrase.Arrow true e) 2 refl (g_token N (piece.Mark sign.DoubleArrow) qs Takes.exact (g_last N qs (i (suc e))))))))
        (λ x. (form x.0 head.Arr (x.1.0.0 ∷ x.1.1.1.1.0 ∷ []), is_two g ls x.0 head.Arr x.1.0.0 x.1.1.1.1.0 t u (node ArrH (cons t (cons u nil))) x.1.0.1 x.1.1.1.1.1 (λ n. refl)))
        (λ x. refl)

    -- < t >
    pub quote_form : (ps : List Piece) (t : Tm) → AsTerm N g ps ls t → AsAtom N g (piece.Mark sign.Less ∷ (ps ++ piece.Mark sign.Greater ∷ [])) ls (node QuoteH (cons t nil))
    quote_form ps t h e = g_map N
        (g_phrase N (phrase.Atom true e) 5 refl
        (g_token N (piece.Mark sign.Less) _ Takes.exact (g_both N ps (piece.Mark sign.Greater ∷ []) (h (suc e)) (g_token N (piece.Mark sign.Greater) [] Takes.exact (g_none N)))))
        (λ x. (form x.0 head.Quote (x.1.1.0.0 ∷ []), is_one g ls x.0 head.Quote x.1.1.0.0 t (node QuoteH (cons t nil)) x.1.1.0.1 (λ n. refl)))
        (λ x. refl)

    -- ~ t, and ^ t
    pub splice_form : (ps : List Piece) (t : Tm) → AsAtom N g ps ls t → AsAtom N g (piece.Mark sign.Tilde ∷ ps) ls (node SpliceH (cons t nil))
    splice_form ps t h e = g_map N
        (g_phrase N (phrase.Atom true e) 6 refl
        (g_last N (piece.Mark sign.Tilde ∷ ps) (g_phrase N (phrase.Code true (suc e)) 0 refl (g_token N (piece.Mark sign.Tilde) ps Takes.exact (g_last N ps (h (suc e)))))))
        (λ x. (form x.1.0 head.Splice (x.1.1.1.0 ∷ []), is_one g ls x.1.0 head.Splice x.1.1.1.0 t (node SpliceH (cons t nil)) x.1.1.1.1 (λ n. refl)))
        (λ x. refl)

    pub lift_form : (ps : List Piece) (t : Tm) → AsAtom N g ps ls t → AsAtom N g (piece.Mark sign.Caret ∷ ps) ls (node LiftH (cons t nil))
    lift_form ps t h e = g_map N
        (g_phrase N (phrase.Atom true e) 6 refl
        (g_last N (piece.Mark sign.Caret ∷ ps) (g_phrase N (phrase.Code true (suc e)) 1 refl (g_token N (piece.Mark sign.Caret) ps Takes.exact (g_last N ps (h (suc e)))))))
        (λ x. (form x.1.0 head.Lift (x.1.1.1.0 ∷ []), is_one g ls x.1.0 head.Lift x.1.1.1.0 t (node LiftH (cons t nil)) x.1.1.1.1 (λ n. refl)))
        (λ x. refl)

    -- a name alone
    pub variable_form : (p : Piece) (b : Bool) (i : ℕ) → class_of N p ≡ class.Name b → variable_of g ls (spelling N p) ≡ Some i → AsAtom N g (p ∷ []) ls (var i)
    variable_form p b i c f e = g_map N
        (g_phrase N (phrase.Atom true e) 0 refl
        (g_token N p [] (subst (λ k. Takes NAME k) (sym c) Takes.any_name) (g_last N [] (g_phrase N (phrase.Brackets true e) 0 refl (g_none N)))))
        (λ x. (tree x.0 (trees.Variable (spelling N p)) trees.none, is_variable g ls x.0 (spelling N p) i f))
        (λ x. refl)
