-- The numbers of names, as they are seen and by the names of the whole text.
use Rattle.std.proofs.Common.{◌≡◌, ◌∙◌, ap, sym, subst, arith, refl, ℕ, suc, ◌+◌, Bool, true, false, cond, ◌&&◌, ◌||◌, not, nat_eq, List, [], ◌∷◌, ◌++◌, length, take, append_assoc}
use Rattle.std.proofs.lemmas.List.{append-nil}
use Rattle.std.proofs.lemmas.List.Folds.{list_any-append}
use Rattle.std.specs.Cmp.Lexicographic.{same_text}
use Rattle.std.specs.List.{before_first, list_any, position_or_len}
use Rattle.std.specs.Str.{bytes_eq}
use Rattle.cf_lex.specs.Names.{first_seen, number, with_name}
use Rattle.cf_lex.specs.Naming.{number_after}

same_number : (n : ℕ) → nat_eq n n ≡ true
same_number n = grind (arith)

same_name : (w : List ℕ) → bytes_eq w w ≡ true
same_name [] = refl
same_name (b ∷ bs) = ap (λ v. v && bytes_eq bs bs) (same_number b) ∙ same_name bs

before-stops : (p : List ℕ → Bool) (x : List ℕ) (xs : List (List ℕ)) → p x ≡ true → before_first p (x ∷ xs) ≡ []
before-stops p x xs h = ap (λ b. take (cond (not b) (1 + position_or_len p xs) 0) (x ∷ xs)) h

before-goes : (p : List ℕ → Bool) (x : List ℕ) (xs : List (List ℕ)) → p x ≡ false → before_first p (x ∷ xs) ≡ x ∷ before_first p xs
before-goes p x xs h =
    let e : 1 + position_or_len p xs ≡ suc (position_or_len p xs) = omega arith in
    ap (λ b. take (cond (not b) (1 + position_or_len p xs) 0) (x ∷ xs)) h ∙ ap (λ k. take k (x ∷ xs)) e

-- a name that was not seen comes behind those that were
pub not_seen : (p : List ℕ → Bool) (seen : List (List ℕ)) → list_any p seen ≡ false → position_or_len p seen ≡ length seen
not_seen p [] h = refl
not_seen p (x ∷ xs) h = at (p x) h (λ k. not_seen p xs k)
  where
    at : (b : Bool) → (b || list_any p xs) ≡ false → (list_any p xs ≡ false → position_or_len p xs ≡ length xs) → cond (not b) (1 + position_or_len p xs) 0 ≡ suc (length xs)
    at true k r = absurd (cc)
    at false k r = let e = r k in omega (arith, e)

-- the first place behind those that were seen
first_behind : (p : List ℕ → Bool) (seen : List (List ℕ)) (x : List ℕ) (xs : List (List ℕ)) → list_any p seen ≡ false → p x ≡ true → position_or_len p (seen ++ x ∷ xs) ≡ length seen
first_behind p [] x xs h e = ap (λ b. cond (not b) (1 + position_or_len p xs) 0) e
first_behind p (y ∷ ys) x xs h e = at (p y) h (λ k. first_behind p ys x xs k e)
  where
    at : (b : Bool) → (b || list_any p ys) ≡ false → (list_any p ys ≡ false → position_or_len p (ys ++ x ∷ xs) ≡ length ys) → cond (not b) (1 + position_or_len p (ys ++ x ∷ xs)) 0 ≡ suc (length ys)
    at true k r = absurd (cc)
    at false k r = let i = r k in omega (arith, i)

-- what was seen stays in front
abbrev pub Extends : List (List ℕ) → List (List ℕ) → Type 0
Extends seen all = (others : List (List ℕ)) × (all ≡ seen ++ others)

with_name-extends : (seen : List (List ℕ)) (name : List ℕ) → Extends seen (with_name seen name)
with_name-extends seen name = at (list_any (bytes_eq name) seen)
  where
    at : (b : Bool) → Extends seen (cond b seen (seen ++ name ∷ []))
    at true = ([], sym (append-nil seen))
    at false = (name ∷ [], refl)

pub seen_extends : (seen names : List (List ℕ)) → Extends seen (first_seen seen names)
seen_extends seen [] = ([], sym (append-nil seen))
seen_extends seen (n ∷ ns) =
    let a = with_name-extends seen n in
    let b = seen_extends (with_name seen n) ns in
    (a.0 ++ b.0, b.1 ∙ ap (λ s. s ++ b.0) a.1 ∙ append_assoc seen a.0 b.0)

any-append : (p : List ℕ → Bool) (xs : List (List ℕ)) (y : List ℕ) → list_any p xs ≡ false → p y ≡ false → list_any p (xs ++ y ∷ []) ≡ false
any-append p xs y h e = list_any-append p xs (y ∷ []) ∙ ap (λ b. b || (p y || false)) h ∙ ap (λ b. b || false) e

still_unseen : (p : List ℕ → Bool) (seen : List (List ℕ)) (name : List ℕ) → list_any p seen ≡ false → p name ≡ false → list_any p (with_name seen name) ≡ false
still_unseen p seen name h e = at (list_any (bytes_eq name) seen)
  where
    at : (b : Bool) → list_any p (cond b seen (seen ++ name ∷ [])) ≡ false
    at true = h
    at false = any-append p seen name h e

pub new_name : (seen : List (List ℕ)) (name : List ℕ) → list_any (bytes_eq name) seen ≡ false → with_name seen name ≡ seen ++ name ∷ []
new_name seen name h = ap (λ b. cond b seen (seen ++ name ∷ [])) h

numbered_from : (seen names : List (List ℕ)) (w : List ℕ) (more : List (List ℕ)) → list_any (bytes_eq w) seen ≡ false → length (first_seen seen (before_first (bytes_eq w) (names ++ w ∷ more))) ≡ position_or_len (bytes_eq w) (first_seen seen names)
numbered_from seen [] w more h =
    ap (λ ns. length (first_seen seen ns)) (before-stops (bytes_eq w) w more (same_name w)) ∙ sym (not_seen (bytes_eq w) seen h)
numbered_from seen (n ∷ ns) w more h = at (bytes_eq w n) refl (λ u. numbered_from (with_name seen n) ns w more u)
  where
    at : (b : Bool) → bytes_eq w n ≡ b → (list_any (bytes_eq w) (with_name seen n) ≡ false → length (first_seen (with_name seen n) (before_first (bytes_eq w) (ns ++ w ∷ more))) ≡ position_or_len (bytes_eq w) (first_seen (with_name seen n) ns)) → length (first_seen seen (before_first (bytes_eq w) (n ∷ ns ++ w ∷ more))) ≡ position_or_len (bytes_eq w) (first_seen (with_name seen n) ns)
    at true e r =
        let s : w ≡ n = same_text w n (sym e) in
        let u : list_any (bytes_eq n) seen ≡ false = subst (λ x. list_any (bytes_eq x) seen ≡ false) s h in
        let x = seen_extends (seen ++ n ∷ []) ns in
        let f : first_seen (with_name seen n) ns ≡ seen ++ n ∷ x.0 = ap (λ t. first_seen t ns) (new_name seen n u) ∙ x.1 ∙ append_assoc seen (n ∷ []) x.0 in
        ap (λ t. length (first_seen seen t)) (before-stops (bytes_eq w) n (ns ++ w ∷ more) e)
        ∙ sym (ap (position_or_len (bytes_eq w)) f ∙ first_behind (bytes_eq w) seen n x.0 h e)
    at false e r =
        ap (λ t. length (first_seen seen t)) (before-goes (bytes_eq w) n (ns ++ w ∷ more) e)
        ∙ r (still_unseen (bytes_eq w) seen n h e)

-- the number of a name is told by the names up to it
pub numbered : (names : List (List ℕ)) (w : List ℕ) (more : List (List ℕ)) → number (names ++ w ∷ more) w ≡ number_after (first_seen [] names) w
numbered names w more = numbered_from [] names w more refl

pub seen_push : (seen names : List (List ℕ)) (w : List ℕ) → first_seen seen (names ++ w ∷ []) ≡ with_name (first_seen seen names) w
seen_push seen [] w = refl
seen_push seen (n ∷ ns) w = seen_push (with_name seen n) ns w
