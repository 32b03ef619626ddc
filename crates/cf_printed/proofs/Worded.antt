-- The forms that are written as a word and atoms.
use Rattle.std.proofs.Common.{◌≡◌, true, false, ap, ◌∙◌, ℕ, List, [], ◌∷◌, ◌++◌, Some}
use Rattle.std.specs.Prelude.{slice_get}
use Rattle.cf_lex.specs.Spelling.{keyword_text}
use Rattle.cf_lex.specs.declared.keywords.Keyword.{Keyword}
use Rattle.cf_grammar.specs.Grammar.{Takes, rules, word}
use Rattle.cf_grammar.specs.declared.classes.Class.TheVariants as class
use Rattle.cf_grammar.specs.declared.phrases.Phrase.TheVariants as phrase
use Rattle.cf_grammar.specs.declared.phrases.Symbol.TheVariants.{Phrase as a}
use Rattle.cf_tree.specs.declared.heads.Head.{Head}
use Rattle.cf_tree.specs.Tree.{Binder}
use Rattle.cf_term.specs.Core.{Tm, cons, nil}
use Rattle.cf_syntax.specs.Places.{place}
use Rattle.cf_parse.specs.Meaning.{Sem, actions, form, of_word, run, worded}
use Rattle.cf_parse.specs.Meaning as meant
use Rattle.cf_parse.specs.Words.{form_of}
use Rattle.cf_elab.specs.Forms.{formed}
use Rattle.cf_elab.specs.Resolving.{As}
use Rattle.cf_elab.specs.Scope.{Globals}
use Rattle.cf_core_text.specs.Names.{Names}
use Rattle.cf_core_text.specs.declared.pieces.Piece.{Piece}
use Rattle.cf_core_text.specs.declared.pieces.Piece.TheVariants as piece
use Rattle.cf_printed.proofs.Deriving.{g_both, g_map, g_none, g_phrase, g_token}
use Rattle.cf_printed.proofs.Placed.{AsAtom, AsHead}
use Rattle.cf_printed.proofs.Resolving.{is_four, is_one, is_three, is_two, is_zero}

-- the meaning of a word that begins at byte n
abbrev word_at : ℕ → Keyword → Sem
word_at n y = meant.token (place false n) (class.Word y) (keyword_text y)

module _ (N : Names) (g : Globals) (ls : List Binder) where
  -- a word without atoms, by the number of its right side
  pub constant : (y : Keyword) (w : ℕ) (h : Head) (u : Tm) → ((e : ℕ) → slice_get (rules (phrase.Atom true e)) w ≡ Some (word y ∷ [])) → ((e : ℕ) → slice_get (actions (phrase.Atom true e)) w ≡ Some worded) → form_of y ≡ Some h → ((n : ℕ) → formed h [] nil n ≡ As u n) → AsAtom N g (piece.Word y ∷ []) ls u
  constant y w h u r c f k e = g_map N
      (g_phrase N (phrase.Atom true e) w (r e) (g_token N (piece.Word y) [] Takes.exact (g_none N)))
      (λ x. (form x.0 h [], is_zero g ls x.0 h u k))
      (λ x. ap (λ o. run o x.0 (word_at x.1.0 y ∷ [])) (c e) ∙ ap (λ o. of_word x.0 o []) f)

  pub one : (y : Keyword) (w : ℕ) (h : Head) (ps : List Piece) (t1 v : Tm) → ((e : ℕ) → slice_get (rules (phrase.Head true e)) w ≡ Some (word y ∷ a (phrase.Atom true e) ∷ [])) → ((e : ℕ) → slice_get (actions (phrase.Head true e)) w ≡ Some worded) → form_of y ≡ Some h → ((n : ℕ) → formed h [] (cons t1 nil) n ≡ As v n) → AsAtom N g ps ls t1 → AsHead N g (piece.Word y ∷ (ps ++ [])) ls v
  one y w h ps t1 v r c f m i e = g_map N
      (g_phrase N (phrase.Head true e) w (r e) (g_token N (piece.Word y) (ps ++ []) Takes.exact (g_both N ps ([]) (i e) (g_none N))))
      (λ x. (form x.0 h (x.1.1.0.0 ∷ []), is_one g ls x.0 h x.1.1.0.0 t1 v x.1.1.0.1 m))
      (λ x. ap (λ o. run o x.0 (word_at x.1.0 y ∷ meant.term x.1.1.0.0 ∷ [])) (c e) ∙ ap (λ o. of_word x.0 o (x.1.1.0.0 ∷ [])) f)

  pub two : (y : Keyword) (w : ℕ) (h : Head) (ps qs : List Piece) (t1 t2 v : Tm) → ((e : ℕ) → slice_get (rules (phrase.Head true e)) w ≡ Some (word y ∷ a (phrase.Atom true e) ∷ a (phrase.Atom true e) ∷ [])) → ((e : ℕ) → slice_get (actions (phrase.Head true e)) w ≡ Some worded) → form_of y ≡ Some h → ((n : ℕ) → formed h [] (cons t1 (cons t2 nil)) n ≡ As v n) → AsAtom N g ps ls t1 → AsAtom N g qs ls t2 → AsHead N g (piece.Word y ∷ (ps ++ (qs ++ []))) ls v
  two y w h ps qs t1 t2 v r c f m i j e = g_map N
      (g_phrase N (phrase.Head true e) w (r e) (g_token N (piece.Word y) (ps ++ (qs ++ [])) Takes.exact (g_both N ps (qs ++ []) (i e) (g_both N qs ([]) (j e) (g_none N)))))
      (λ x. (form x.0 h (x.1.1.0.0 ∷ x.1.1.1.0.0 ∷ []), is_two g ls x.0 h x.1.1.0.0 x.1.1.1.0.0 t1 t2 v x.1.1.0.1 x.1.1.1.0.1 m))
      (λ x. ap (λ o. run o x.0 (word_at x.1.0 y ∷ meant.term x.1.1.0.0 ∷ meant.term x.1.1.1.0.0 ∷ [])) (c e) ∙ ap (λ o. of_word x.0 o (x.1.1.0.0 ∷ x.1.1.1.0.0 ∷ [])) f)

  pub three : (y : Keyword) (w : ℕ) (h : Head) (ps qs rs : List Piece) (t1 t2 t3 v : Tm) → ((e : ℕ) → slice_get (rules (phrase.Head true e)) w ≡ Some (word y ∷ a (phrase.Atom true e) ∷ a (phrase.Atom true e) ∷ a (phrase.Atom true e) ∷ [])) → ((e : ℕ) → slice_get (actions (phrase.Head true e)) w ≡ Some worded) → form_of y ≡ Some h → ((n : ℕ) → formed h [] (cons t1 (cons t2 (cons t3 nil))) n ≡ As v n) → AsAtom N g ps ls t1 → AsAtom N g qs ls t2 → AsAtom N g rs ls t3 → AsHead N g (piece.Word y ∷ (ps ++ (qs ++ (rs ++ [])))) ls v
  three y w h ps qs rs t1 t2 t3 v r c f m i j k e = g_map N
      (g_phrase N (phrase.Head true e) w (r e) (g_token N (piece.Word y) (ps ++ (qs ++ (rs ++ []))) Takes.exact (g_both N ps (qs ++ (rs ++ [])) (i e) (g_both N qs (rs ++ []) (j e) (g_both N rs ([]) (k e) (g_none N))))))
      (λ x. (form x.0 h (x.1.1.0.0 ∷ x.1.1.1.0.0 ∷ x.1.1.1.1.0.0 ∷ []), is_three g ls x.0 h x.1.1.0.0 x.1.1.1.0.0 x.1.1.1.1.0.0 t1 t2 t3 v x.1.1.0.1 x.1.1.1.0.1 x.1.1.1.1.0.1 m))
      (λ x. ap (λ o. run o x.0 (word_at x.1.0 y ∷ meant.term x.1.1.0.0 ∷ meant.term x.1.1.1.0.0 ∷ meant.term x.1.1.1.1.0.0 ∷ [])) (c e) ∙ ap (λ o. of_word x.0 o (x.1.1.0.0 ∷ x.1.1.1.0.0 ∷ x.1.1.1.1.0.0 ∷ [])) f)

  pub four : (y : Keyword) (w : ℕ) (h : Head) (ps qs rs ss : List Piece) (t1 t2 t3 t4 v : Tm) → ((e : ℕ) → slice_get (rules (phrase.Head true e)) w ≡ Some (word y ∷ a (phrase.Atom true e) ∷ a (phrase.Atom true e) ∷ a (phrase.Atom true e) ∷ a (phrase.Atom true e) ∷ [])) → ((e : ℕ) → slice_get (actions (phrase.Head true e)) w ≡ Some worded) → form_of y ≡ Some h → ((n : ℕ) → formed h [] (cons t1 (cons t2 (cons t3 (cons t4 nil)))) n ≡ As v n) → AsAtom N g ps ls t1 → AsAtom N g qs ls t2 → AsAtom N g rs ls t3 → AsAtom N g ss ls t4 → AsHead N g (piece.Word y ∷ (ps ++ (qs ++ (rs ++ (ss ++ []))))) ls v
  four y w h ps qs rs ss t1 t2 t3 t4 v r c f m i j k l e = g_map N
      (g_phrase N (phrase.Head true e) w (r e) (g_token N (piece.Word y) (ps ++ (qs ++ (rs ++ (ss ++ [])))) Takes.exact (g_both N ps (qs ++ (rs ++ (ss ++ []))) (i e) (g_both N qs (rs ++ (ss ++ [])) (j e) (g_both N rs (ss ++ []) (k e) (g_both N ss ([]) (l e) (g_none N)))))))
      (λ x. (form x.0 h (x.1.1.0.0 ∷ x.1.1.1.0.0 ∷ x.1.1.1.1.0.0 ∷ x.1.1.1.1.1.0.0 ∷ []), is_four g ls x.0 h x.1.1.0.0 x.1.1.1.0.0 x.1.1.1.1.0.0 x.1.1.1.1.1.0.0 t1 t2 t3 t4 v x.1.1.0.1 x.1.1.1.0.1 x.1.1.1.1.0.1 x.1.1.1.1.1.0.1 m))
      (λ x. ap (λ o. run o x.0 (word_at x.1.0 y ∷ meant.term x.1.1.0.0 ∷ meant.term x.1.1.1.0.0 ∷ meant.term x.1.1.1.1.0.0 ∷ meant.term x.1.1.1.1.1.0.0 ∷ [])) (c e) ∙ ap (λ o. of_word x.0 o (x.1.1.0.0 ∷ x.1.1.1.0.0 ∷ x.1.1.1.1.0.0 ∷ x.1.1.1.1.1.0.0 ∷ [])) f)
