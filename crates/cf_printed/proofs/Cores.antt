-- The core of an explicit source can be printed.
use Rattle.std.proofs.Common.{◌≡◌, refl, sym, ap, ◌∙◌, subst, arith, ℕ, zero, suc, ◌*◌, ◌≤◌, Bool, true, false, List, [], ◌∷◌, length, Option, Some, None}
use Rattle.std.specs.Prelude.{slice_get}
use Rattle.cf_base.specs.declared.at.At.{At}
use Rattle.cf_lex.specs.declared.keywords.Keyword.TheVariants as keyword
use Rattle.cf_lex.specs.declared.marks.Mark.TheVariants as sign
use Rattle.cf_grammar.specs.Grammar as grammar
use Rattle.cf_grammar.specs.Grammar.{rules}
use Rattle.cf_grammar.specs.Refusing.{over}
use Rattle.cf_grammar.specs.declared.phrases.Phrase.TheVariants as phrase
use Rattle.cf_grammar.specs.declared.phrases.Symbol.{Symbol}
use Rattle.cf_grammar.specs.declared.phrases.Symbol.TheVariants.{Phrase as a}
use Rattle.cf_tree.specs.Tree.{DeclTree, Program, is_explicit}
use Rattle.cf_parse.specs.Derivation.{Cst, Csts, Parses, ParsesAll, token, phrase as opened, none, both}
use Rattle.cf_syntax.specs.Places.{place}
use Rattle.cf_parse.specs.Meaning.{Sem, meaning, program_in, program_of, values}
use Rattle.cf_parse.specs.Reads.{within, within_all, within_limit}
use Rattle.cf_syntax.specs.Tokens.{Token, tokens_of}
use Rattle.cf_elab.specs.Core.{declare_all}
use Rattle.cf_elab.specs.Scope.{start}
use Rattle.cf_printed.specs.Laws.{CoresAreScoped}
use Rattle.cf_printed.specs.Scoped.{AllScoped}
use Rattle.cf_printed.proofs.Acting.{clash}
use Rattle.cf_printed.proofs.Heads.{Holds}
use Rattle.cf_printed.proofs.Meanings.{AllMade, Any, Decl, Many, Word, decls_made, end, next}
use Rattle.cf_printed.proofs.Scoping.{all_scoped}
use Rattle.cf_printed.proofs.Texts.{text_count, text_spelt}
use Rattle.cf_printed.proofs.Truth.{right}
use Rattle.cf_printed.proofs.Walked.{AreSpelt, walked_all}
use Rattle.cf_printed.proofs.Written.{AreDecls}

abbrev explicit_of : Option Program → Bool
explicit_of None = false
explicit_of (Some p) = p.explicit

abbrev decls_of : Option Program → List DeclTree
decls_of None = []
decls_of (Some p) = p.decls

-- a program that is not explicit
other : {A : Type 0} (o : Option Program) (p : Program) → explicit_of o ≡ false → o ≡ Some p → is_explicit p ≡ true → A
other o p f e x = clash (sym f ∙ ap explicit_of e ∙ x)

explicit_made : (w z : ℕ) (vs : List Sem) → AllMade (Word keyword.Explicit ∷ Any ∷ Many Decl ∷ []) w vs → w ≤ z → (at : At) (p : Program) → program_in (meaning phrase.Program 0 at vs) ≡ Some p → AreDecls z p.decls
explicit_made w z _ (next h (next g (next {v = v} {x = x} m end k) j) i) l at p e = subst (AreDecls z) (ap decls_of e) (decls_made v z x m (omega (arith, i, j, k, l)))

module _ (b : Bool) where
  abbrev Explained : (which : ℕ) → List Symbol → Type 0
  Explained n r = (cs : Csts) (ks ls : List Token) → ParsesAll r cs ks ls → within_all cs ≡ true → AreSpelt ks → (at : At) (p : Program) → program_in (meaning phrase.Program n at (values b cs)) ≡ Some p → is_explicit p ≡ true → AreDecls (100 * length ks) p.decls

  by_explicit : Explained 0 (grammar.word keyword.Explicit ∷ grammar.sign sign.Semicolon ∷ a (phrase.Decls true 0) ∷ [])
  by_explicit cs ks ls m i s at p e x =
      let h = walked_all b (grammar.word keyword.Explicit ∷ grammar.sign sign.Semicolon ∷ a (phrase.Decls true 0) ∷ []) cs ks ls m refl i s in
      let k = h.2 in
      explicit_made _ (100 * length ks) (values b cs) h.0 (omega (arith, k)) at p e

  by_use : (y1 y2 y3 y4 : Symbol) → Explained 1 (y1 ∷ y2 ∷ y3 ∷ y4 ∷ [])
  by_use y1 y2 y3 y4 _ ks ls (both m1 (both m2 (both m3 (both m4 none)))) i s at p e x = other _ p refl e x

  by_plain : (y1 y2 : Symbol) → Explained 2 (y1 ∷ y2 ∷ [])
  by_plain y1 y2 _ ks ls (both m1 (both m2 none)) i s at p e x = other _ p refl e x

  by_nothing : (n : ℕ) → Explained n []
  by_nothing n _ ks ls none i s at p e x = other _ p refl e x

  by_rule : (n : ℕ) (r : List Symbol) → slice_get (rules phrase.Program) n ≡ Some r → Explained n r
  by_rule zero r q = let k : grammar.word keyword.Explicit ∷ grammar.sign sign.Semicolon ∷ a (phrase.Decls true 0) ∷ [] ≡ r = cc in subst (Explained 0) k by_explicit
  by_rule (suc zero) r q =
      let k : grammar.word keyword.Use ∷ grammar.word keyword.Prelude ∷ grammar.sign sign.Semicolon ∷ a (phrase.Decls false 0) ∷ [] ≡ r = cc in
      subst (Explained 1) k (by_use (grammar.word keyword.Use) (grammar.word keyword.Prelude) (grammar.sign sign.Semicolon) (a (phrase.Decls false 0)))
  by_rule (suc (suc zero)) r q = let k : a (phrase.Decl false 0) ∷ a (phrase.Decls false 1) ∷ [] ≡ r = cc in subst (Explained 2) k (by_plain (a (phrase.Decl false 0)) (a (phrase.Decls false 1)))
  by_rule (suc (suc (suc zero))) r q = let k : [] ≡ r = cc in subst (Explained 3) k (by_nothing 3)
  by_rule (suc (suc (suc (suc n)))) r q = absurd (cc)

  -- the declarations of an explicit program are written
  explained : (c : Cst) (ks ls : List Token) → Parses (a phrase.Program) c ks ls → within c ≡ true → AreSpelt ks → (p : Program) → program_of b c ≡ Some p → is_explicit p ≡ true → AreDecls (100 * length ks) p.decls
  explained _ _ ls (token t) i s p e x = elim t [ ]
  explained _ _ ls (opened {which = n} {r = r} {cs = cs} {k = k} {ks = ks} q m) i s p e x =
      by_rule n r q cs (k ∷ ks) ls m (right (within_limit (over phrase.Program)) (within_all cs) i) s (place b k.at) p e x

pub cores_scoped : CoresAreScoped
cores_scoped bytes l b p ds short lexed reads x core =
    let u = reads.unlimited in
    let ks : List Token = tokens_of l in
    let written : AreDecls (100 * length ks) p.decls = explained b u.cst ks (u.end_token ∷ []) u.parses reads.limits (text_spelt l lexed.1) p u.means x in
    let count = text_count l lexed.1 in
    let e : length l.text ≡ length bytes = ap length lexed.0 in
    let h : Holds (AllScoped start) (declare_all start p.decls 0) = all_scoped (100 * length ks) (omega (arith, count, e, short)) start p.decls written 0 in
    subst (Holds (AllScoped start)) core.1 h
