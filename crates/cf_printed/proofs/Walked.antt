-- The program that explicit tokens read as is written.
use Rattle.std.proofs.Common.{◌≡◌, sym, arith, ℕ, ◌+◌, ◌*◌, ◌≤◌, Bool, true, false, List, [], ◌∷◌, length, Some}
use Rattle.std.proofs.lemmas.Bool.{leb-true}
use Rattle.cf_base.specs.declared.at.At.{At}
use Rattle.cf_lex.specs.Lexed.{AreChars}
use Rattle.cf_lex.specs.Tokens.{spelled}
use Rattle.cf_lex.specs.declared.piece.Lexeme.TheVariants as lexeme
use Rattle.cf_lex.specs.declared.piece.Piece.TheVariants as read
use Rattle.cf_grammar.specs.Grammar.{rules, Takes, exact, any_name}
use Rattle.cf_grammar.specs.Refusing.{over}
use Rattle.cf_grammar.specs.declared.classes.Class.{Class}
use Rattle.cf_grammar.specs.declared.classes.Class.TheVariants as class
use Rattle.cf_grammar.specs.declared.phrases.Symbol.{Symbol}
use Rattle.cf_parse.specs.Derivation.{Cst, leaf, branch, Csts, nil, cons, Parses, ParsesAll, token, phrase, none as no_symbol, both}
use Rattle.cf_syntax.specs.Numbers.{natlit_of, in_range}
use Rattle.cf_syntax.specs.Places.{place}
use Rattle.cf_parse.specs.Meaning.{Sem, actions, decls_in, program_in, program_of, value, values}
use Rattle.cf_parse.specs.Meaning as meant
use Rattle.cf_parse.specs.Reads.{within, within_all, within_limit}
use Rattle.cf_syntax.specs.Tokens.{Token, begins_plain}
use Rattle.cf_printed.proofs.Acting.{acting, all_explicit, explicit_rules, explicit_symbol, kind_at, kind_of, kinds_of, sides}
use Rattle.cf_printed.proofs.Meanings.{Made, AllMade, end, next, a_global, a_name, a_natlit, a_token, a_whole, a_word}
use Rattle.cf_printed.proofs.Truth.{left, right}

-- a name is spelt as one, and the grammar sees whether it begins with `_`
abbrev pub IsSpelt : Class → List ℕ → Type 0
IsSpelt (class.Name b) x = (b ≡ begins_plain x) × ((cs : List ℕ) × AreChars x cs × (spelled cs ≡ Some (read.Token lexeme.Name)))
IsSpelt c x = Unit {0}

abbrev pub AreSpelt : List Token → Type 0
AreSpelt [] = Unit {0}
AreSpelt (k ∷ ks) = IsSpelt k.class k.text × AreSpelt ks

token_made : (y : Symbol) (c : Class) (x : List ℕ) (p : At) → Takes y c → in_range c x ≡ true → IsSpelt c x → Made (kind_at y) 100 (meant.token p c x)
token_made _ _ x p (any_name {p = b}) e h = a_name (omega arith)
token_made _ (class.Name true) x p exact e h = a_global (h.1.0, h.1.1, h.1.2, sym h.0) (omega arith)
token_made _ (class.Name false) x p exact e h = a_name (omega arith)
token_made _ (class.Word y) x p exact e h = a_word (omega arith)
token_made _ class.Whole x p exact e h = a_whole e (omega arith)
token_made _ class.NatLit x p exact e h = a_natlit (leb-true (natlit_of x) 64 e) (omega arith)
token_made _ class.Hole x p exact e h = a_token (omega arith)
token_made _ (class.Mark z) x p exact e h = a_token (omega arith)
token_made _ class.End x p exact e h = a_token (omega arith)

-- how large a meaning can be: 100 for each token
abbrev mutual
  weight : Cst → ℕ
  weight (leaf k) = 100
  weight (branch n which at cs) = weights cs

  weights : Csts → ℕ
  weights nil = 0
  weights (cons c cs) = weight c + weights cs

module _ (b : Bool) where
  abbrev Walked : Symbol → Cst → List Token → List Token → Type 0
  Walked y c ks ls = Made (kind_at y) (weight c) (value b c) × AreSpelt ls × (weight c + 100 * length ls ≤ 100 * length ks)

  abbrev WalkedAll : List Symbol → Csts → List Token → List Token → Type 0
  WalkedAll ys cs ks ls = AllMade (kinds_of ys) (weights cs) (values b cs) × AreSpelt ls × (weights cs + 100 * length ls ≤ 100 * length ks)

  mutual
    walked : (y : Symbol) (c : Cst) (ks ls : List Token) → Parses y c ks ls → explicit_symbol y ≡ true → within c ≡ true → AreSpelt ks → Walked y c ks ls
    walked y _ _ ls (token {k = k} t) e i s = (token_made y k.class k.text (place b k.at) t i s.0, s.1, omega arith)
    walked _ _ _ ls (phrase {n = n} {which = o} {r = r} {cs = cs} {k = k} {ks = ks} q m) e i s =
        let d = sides (rules n) (actions n) (kind_of n) (acting n e) (explicit_rules n e) o r q in
        let h = walked_all r cs (k ∷ ks) ls m d.0 (right (within_limit (over n)) (within_all cs) i) s in
        (d.1 (place b k.at) (weights cs) (values b cs) h.0, h.1, h.2)

    pub walked_all : (ys : List Symbol) (cs : Csts) (ks ls : List Token) → ParsesAll ys cs ks ls → all_explicit ys ≡ true → within_all cs ≡ true → AreSpelt ks → WalkedAll ys cs ks ls
    walked_all _ _ _ ls no_symbol e i s = (end, s, omega arith)
    walked_all _ _ ks ls (both {y = y} {ys = ys} {c = c} {cs = cs} {ls = ms} p q) e i s =
        let h = walked y c ks ms p (left (explicit_symbol y) (all_explicit ys) e) (left (within c) (within_all cs) i) s in
        let o = walked_all ys cs ms ls q (right (explicit_symbol y) (all_explicit ys) e) (right (within c) (within_all cs) i) h.1 in
        let u = h.2 in
        let v = o.2 in
        (next h.0 o.0 (omega arith), o.1, omega (arith, u, v))
