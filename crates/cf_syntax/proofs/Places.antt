-- The tokens of a text from some place on.
use Rattle.std.proofs.Common.{◌≡◌, ◌∙◌, ap, sym, subst, ℕ, zero, suc, ◌≤◌, List, [], ◌∷◌, ◌++◌, length, map, drop, arith, Option, Some, None, slice_get, slice_range}
use Rattle.cf_lex.specs.Lexed.{TokenList}
use Rattle.cf_lex.specs.declared.token.Token as lexed
use Rattle.cf_syntax.specs.Places.{front}
use Rattle.cf_syntax.specs.Tokens.{Token, class_of, end_of, token_of, tokens_of}

-- equal lists have equal heads
pub head_is : {A : Type 0} {x y : A} {xs ys : List A} → x ∷ xs ≡ y ∷ ys → x ≡ y
head_is {A = A} {x = x} e = ap first e
  where
    first : List A → A
    first [] = x
    first (z ∷ zs) = z

listed : (f : lexed.Token → Token) (ts : List (lexed.Token)) (us : List Token) (at : ℕ) (t : lexed.Token) → slice_get ts at ≡ Some t → (ls : List Token) × (drop at (map f ts ++ us) ≡ f t ∷ ls)
listed f [] us at t e = absurd (subst is_some (sym e) tt)
  where
    is_some : {A : Type 0} → Option A → Type 0
    is_some None = ⊥
    is_some (Some x) = Unit {0}
listed f (x ∷ ts) us zero t e = (map f ts ++ us, ap (λ y. f y ∷ map f ts ++ us) (is_some e))
  where
    or_x : Option (lexed.Token) → lexed.Token
    or_x None = x
    or_x (Some y) = y

    is_some : Some x ≡ Some t → x ≡ t
    is_some q = ap or_x q
listed f (x ∷ ts) us (suc at) t e = listed f ts us at t e

-- the token that stands at a place
pub here : (l : TokenList) (at : ℕ) (t : lexed.Token) (k : Token) (ls : List Token) → slice_get l.tokens at ≡ Some t → drop at (tokens_of l) ≡ k ∷ ls → k ≡ token_of l t
here l at t k ls e h = let o = listed (token_of l) l.tokens (end_of l ∷ []) at t e in head_is (sym h ∙ o.1)

pub front_here : (l : TokenList) (at : ℕ) (t : lexed.Token) → slice_get l.tokens at ≡ Some t → front (drop at (tokens_of l)) ≡ class_of t.kind (slice_range l.text t.start t.end)
front_here l at t e = let o = listed (token_of l) l.tokens (end_of l ∷ []) at t e in ap front o.1

-- behind the last token the end stands
past : (f : lexed.Token → Token) (ts : List (lexed.Token)) (e : Token) (at : ℕ) (k : Token) (ls : List Token) → length ts ≤ at → drop at (map f ts ++ e ∷ []) ≡ k ∷ ls → k ≡ e
past f [] e zero k ls h q = sym (head_is q)
past f [] e (suc at) k ls h q = absurd (none at (sym q))
  where
    some : List Token → Type 0
    some [] = ⊥
    some (x ∷ xs) = Unit {0}

    none : (n : ℕ) → k ∷ ls ≡ drop n [] → ⊥
    none zero p = subst some p tt
    none (suc n) p = subst some p tt
past f (t ∷ ts) e zero k ls h q = absurd (omega (arith, h))
past f (t ∷ ts) e (suc at) k ls h q = past f ts e at k ls (omega (arith, h)) q

pub at_end : (l : TokenList) (at : ℕ) (k : Token) (ls : List Token) → length l.tokens ≤ at → drop at (tokens_of l) ≡ k ∷ ls → k ≡ end_of l
at_end l at k ls h q = past (token_of l) l.tokens (end_of l) at k ls h q
