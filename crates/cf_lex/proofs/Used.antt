-- Which names are used, and how they are spelled.
use Rattle.std.proofs.Common.{◌≡◌, ◌∙◌, ap, sym, subst, arith, refl, inl, inr, ◌⊎◌, ℕ, zero, suc, ◌+◌, ◌-◌, ◌≤◌, Bool, true, false, cond, ◌||◌, not, List, [], ◌∷◌, ◌++◌, length, length-append, take, drop, map, append_assoc, Some}
use Rattle.std.proofs.Math.Seq.{take-append_seam, drop-append_seam}
use Rattle.std.proofs.lemmas.Str.{encodes-append}
use Rattle.std.specs.Cmp.Lexicographic.{same_text}
use Rattle.std.specs.List.{Contains, list_any, position_or_len, slice_get, slice_range}
use Rattle.std.specs.Str.{bytes_eq, encode_utf8_all}
use Rattle.cf_lex.specs.Lexed.{IsLexed, IsUsed, TokenList}
use Rattle.cf_lex.specs.Names.{first_seen, kind_of, name_of, names_in, number, token_of, with_name}
use Rattle.cf_lex.specs.Naming.{number_after}
use Rattle.cf_lex.specs.Tokens.{Item, Lexes, width}
use Rattle.cf_lex.specs.declared.piece.Lexeme.{Lexeme}
use Rattle.cf_lex.specs.declared.piece.Lexeme.TheVariants as lexeme
use Rattle.cf_lex.specs.declared.token.Token.{Token}
use Rattle.cf_lex.specs.declared.token.TokenKind.TheVariants as kind
use Rattle.cf_lex.proofs.Numbers.{not_seen, numbered, seen_extends}

-- P holds of each item
abbrev pub Each : (Item → Type 0) → List Item → Type 0
Each P [] = Unit {0}
Each P (i ∷ is) = P i × Each P is

pub both : (P Q : Item → Type 0) (items : List Item) → Each P items → Each Q items → Each (λ i. P i × Q i) items
both P Q [] p q = tt
both P Q (i ∷ is) p q = ((p.0, q.0), both P Q is p.1 q.1)

-- the item of a token
pub from_contains : (f : Item → Token) (P : Item → Type 0) (items : List Item) (t : Token) → Each P items → Contains (map f items) t → (i : Item) × P i × (f i ≡ t)
from_contains f P [] t p (k, h, e) = absurd (omega arith)
from_contains f P (i ∷ is) t p (zero, h, e) = (i, p.0, e)
from_contains f P (i ∷ is) t p (suc k, h, e) = from_contains f P is t p.1 (k, omega arith, e)

-- the item's text stands in these bytes, at its place
pub record IsPlaced (bytes : List ℕ) (i : Item) : Type 0 where
  pub within : i.start + length i.text ≤ length bytes
  pub reads : slice_range bytes i.start (i.start + length i.text) ≡ i.text

place_here : (pre text rest : List ℕ) (n : ℕ) → length pre ≡ n → slice_range (pre ++ (text ++ rest)) n (n + length text) ≡ text
place_here pre text rest n e =
    let k : (n + length text) - n ≡ length text = omega arith in
    let d : drop n (pre ++ (text ++ rest)) ≡ text ++ rest = subst (λ m. drop m (pre ++ (text ++ rest)) ≡ text ++ rest) e (drop-append_seam pre (text ++ rest)) in
    ap (λ m. take m (drop n (pre ++ (text ++ rest)))) k ∙ ap (take (length text)) d ∙ take-append_seam text rest

front_bytes : (pre front rest : List ℕ) → pre ++ encode_utf8_all (front ++ rest) ≡ pre ++ (encode_utf8_all front ++ encode_utf8_all rest)
front_bytes pre front rest = ap (λ bs. pre ++ bs) (encodes-append front rest)

moved_on : (pre front rest : List ℕ) → (pre ++ encode_utf8_all front) ++ encode_utf8_all rest ≡ pre ++ encode_utf8_all (front ++ rest)
moved_on pre front rest = append_assoc pre (encode_utf8_all front) (encode_utf8_all rest) ∙ sym (front_bytes pre front rest)

ends_at : (pre front : List ℕ) (n : ℕ) → length pre ≡ n → length (pre ++ encode_utf8_all front) ≡ n + width front
ends_at pre front n e = omega (arith, length-append pre (encode_utf8_all front), e)

pub placed : (n : ℕ) (text : List ℕ) (items : List Item) (m : ℕ) (left : List ℕ) → Lexes n text items m left → (pre : List ℕ) → length pre ≡ n → Each (IsPlaced (pre ++ encode_utf8_all text)) items
placed n text items m left (Lexes.stops a cs h) pre e = tt
placed n text items m left (Lexes.skips a p front rest is z tail h f l) pre e =
    subst (λ bs. Each (IsPlaced bs) items) (moved_on pre front rest)
    (placed (a + width front) rest items m left l (pre ++ encode_utf8_all front) (ends_at pre front a e))
placed n text items m left (Lexes.takes a k front rest is z tail f l) pre e =
    let bytes : List ℕ = encode_utf8_all front in
    let i : Item = record { start = a; lexeme = k; text = bytes } in
    let s : IsPlaced (pre ++ (bytes ++ encode_utf8_all rest)) i = record {
      within = omega (arith, e, length-append pre (bytes ++ encode_utf8_all rest), length-append bytes (encode_utf8_all rest));
      reads = place_here pre bytes (encode_utf8_all rest) a e;
    } in (
      subst (λ bs. IsPlaced bs i) (sym (front_bytes pre front rest)) s,
      subst (λ bs. Each (IsPlaced bs) is) (moved_on pre front rest)
          (placed (a + width front) rest is m left l (pre ++ bytes) (ends_at pre front a e)),
    )

-- the name stands among these
abbrev Split : List (List ℕ) → List ℕ → Type 0
Split names name = (pre more : List (List ℕ)) × (names ≡ pre ++ name ∷ more)

-- the item, where it is a name, stands among these names
abbrev IsAmong : List (List ℕ) → Item → Type 0
IsAmong names i = i.lexeme ≡ lexeme.Name → Split names i.text

among_from : (pre : List (List ℕ)) (items : List Item) → Each (IsAmong (pre ++ names_in items)) items
among_from pre [] = tt
among_from pre (i ∷ is) = (
  λ h. (pre, names_in is, ap (λ l. pre ++ (name_of l i.text ++ names_in is)) h),
  subst (λ names. Each (IsAmong names) is) (append_assoc pre (name_of i.lexeme i.text) (names_in is)) (among_from (pre ++ name_of i.lexeme i.text) is),
)

-- looking up what was seen

still_there : (xs ys : List (List ℕ)) (k : ℕ) (w : List ℕ) → slice_get xs k ≡ Some w → slice_get (xs ++ ys) k ≡ Some w
still_there [] ys k w h = absurd (cc)
still_there (x ∷ xs) ys zero w h = h
still_there (x ∷ xs) ys (suc k) w h = still_there xs ys k w h

at_seam : (xs ys : List (List ℕ)) (w : List ℕ) → slice_get (xs ++ w ∷ ys) (length xs) ≡ Some w
at_seam [] ys w = refl
at_seam (x ∷ xs) ys w = at_seam xs ys w

at_seen : (w : List ℕ) (seen : List (List ℕ)) → list_any (bytes_eq w) seen ≡ true → slice_get seen (position_or_len (bytes_eq w) seen) ≡ Some w
at_seen w [] h = absurd (cc)
at_seen w (x ∷ xs) h = at (bytes_eq w x) refl h (λ k. at_seen w xs k)
  where
    at : (b : Bool) → bytes_eq w x ≡ b → (b || list_any (bytes_eq w) xs) ≡ true → (list_any (bytes_eq w) xs ≡ true → slice_get xs (position_or_len (bytes_eq w) xs) ≡ Some w) → slice_get (x ∷ xs) (cond (not b) (1 + position_or_len (bytes_eq w) xs) 0) ≡ Some w
    at true e k r = ap Some (sym (same_text w x (sym e)))
    at false e k r =
        let s : 1 + position_or_len (bytes_eq w) xs ≡ suc (position_or_len (bytes_eq w) xs) = omega arith in
        ap (slice_get (x ∷ xs)) s ∙ r k

at_number : (w : List ℕ) (seen : List (List ℕ)) → slice_get (with_name seen w) (number_after seen w) ≡ Some w
at_number w seen = at (list_any (bytes_eq w) seen) refl
  where
    at : (b : Bool) → list_any (bytes_eq w) seen ≡ b → slice_get (cond b seen (seen ++ w ∷ [])) (number_after seen w) ≡ Some w
    at true e = at_seen w seen e
    at false e = ap (slice_get (seen ++ w ∷ [])) (not_seen (bytes_eq w) seen e) ∙ at_seam seen [] w

seen_parts : (seen xs ys : List (List ℕ)) → first_seen seen (xs ++ ys) ≡ first_seen (first_seen seen xs) ys
seen_parts seen [] ys = refl
seen_parts seen (x ∷ xs) ys = seen_parts (with_name seen x) xs ys

-- a name stands at its number
found : (names : List (List ℕ)) (w : List ℕ) → Split names w → slice_get (first_seen [] names) (number names w) ≡ Some w
found names w (pre, more, e) =
    let seen : List (List ℕ) = first_seen [] pre in
    let x = seen_extends (with_name seen w) more in
    let all : first_seen [] names ≡ with_name seen w ++ x.0 = ap (first_seen []) e ∙ seen_parts [] pre (w ∷ more) ∙ x.1 in
    let n : number names w ≡ number_after seen w = ap (λ ns. number ns w) e ∙ numbered pre w more in
    ap (λ ns. slice_get ns (number names w)) all ∙ ap (slice_get (with_name seen w ++ x.0)) n
    ∙ still_there (with_name seen w) x.0 (number_after seen w) w (at_number w seen)

-- a token that is a name, by its kind
abbrev IsNamed : List (List ℕ) → Lexeme → List ℕ → ℕ → Type 0
IsNamed names l text n = (l ≡ lexeme.Name) × (number names text ≡ n)

named_kind : (names : List (List ℕ)) (l : Lexeme) (text : List ℕ) (n : ℕ) → kind_of names l text ≡ kind.Name n → IsNamed names l text n
named_kind names lexeme.Name text n e = (refl, cc)
named_kind names (lexeme.Word k) text n e = absurd (cc)
named_kind names lexeme.Whole text n e = absurd (cc)
named_kind names lexeme.NatLit text n e = absurd (cc)
named_kind names lexeme.Hole text n e = absurd (cc)
named_kind names (lexeme.Mark m) text n e = absurd (cc)

-- what is known of the items of a text
abbrev IsKnown : TokenList → List Item → Item → Type 0
IsKnown l items i = IsPlaced l.text i × IsAmong (names_in items) i

pub text_placed : (l : TokenList) (k : IsLexed l) → Each (IsPlaced l.text) k.1
text_placed l k = subst (λ bs. Each (IsPlaced bs) k.1) k.2.1 (placed 0 k.0 k.1 (length l.text) [] k.3 [] refl)

known : (l : TokenList) (k : IsLexed l) → Each (IsKnown l k.1) k.1
known l k = both (IsPlaced l.text) (IsAmong (names_in k.1)) k.1 (text_placed l k) (among_from [] k.1)

item_of : (l : TokenList) (k : IsLexed l) (t : Token) → Contains l.tokens t → (i : Item) × IsKnown l k.1 i × (token_of (names_in k.1) i ≡ t)
item_of l k t h = from_contains (token_of (names_in k.1)) (IsKnown l k.1) k.1 t (known l k) (subst (λ ts. Contains ts t) k.4 h)

-- a token of a text lies within it
pub within : (l : TokenList) → IsLexed l → (t : Token) → Contains l.tokens t → (t.start ≤ t.end) × (t.end ≤ length l.text)
within l k t h =
    let i = item_of l k t h in
    let a : i.0.start ≡ t.start = ap (λ u. u.start) i.2 in
    let b : i.0.start + length i.0.text ≡ t.end = ap (λ u. u.end) i.2 in
    (omega arith, let w = i.1.0.within in omega arith)

-- a token that is the name n has the text at n
pub named : (l : TokenList) → IsLexed l → (t : Token) (n : ℕ) → Contains l.tokens t → t.kind ≡ kind.Name n → slice_get l.names n ≡ Some (slice_range l.text t.start t.end)
named l k t n h e =
    let i = item_of l k t h in
    let names : List (List ℕ) = names_in k.1 in
    let a : i.0.start ≡ t.start = ap (λ u. u.start) i.2 in
    let b : i.0.start + length i.0.text ≡ t.end = ap (λ u. u.end) i.2 in
    let c = named_kind names i.0.lexeme i.0.text n (ap (λ u. u.kind) i.2 ∙ e) in
    let r : slice_range l.text t.start t.end ≡ i.0.text = sym (λ j. slice_range l.text (a j) (b j)) ∙ i.1.0.reads in
    ap (λ ns. slice_get ns n) k.5 ∙ ap (slice_get (first_seen [] names)) (sym c.1) ∙ found names i.0.text (i.1.1 c.0) ∙ ap Some (sym r)

-- each name that was seen stands somewhere

at_push : (seen : List (List ℕ)) (x : List ℕ) (n : ℕ) (w : List ℕ) → slice_get (seen ++ x ∷ []) n ≡ Some w → (slice_get seen n ≡ Some w) ⊎ ((length seen ≡ n) × (x ≡ w))
at_push [] x zero w h = inr (refl, cc)
at_push [] x (suc n) w h = absurd (cc)
at_push (y ∷ ys) x zero w h = inl h
at_push (y ∷ ys) x (suc n) w h = elim (at_push ys x n w h) [ inl g ↦ inl g | inr g ↦ inr (ap suc g.0, g.1) ]

-- the name w with number n was seen before these, or stands among them
abbrev Origin : List (List ℕ) → List (List ℕ) → ℕ → List ℕ → Type 0
Origin seen names n w = (slice_get seen n ≡ Some w) ⊎ ((pre more : List (List ℕ)) × (names ≡ pre ++ w ∷ more) × (number_after (first_seen seen pre) w ≡ n))

origin_here : (seen : List (List ℕ)) (x : List ℕ) (xs : List (List ℕ)) (n : ℕ) (w : List ℕ) → slice_get (with_name seen x) n ≡ Some w → Origin seen (x ∷ xs) n w
origin_here seen x xs n w = at (list_any (bytes_eq x) seen) refl
  where
    at : (b : Bool) → list_any (bytes_eq x) seen ≡ b → slice_get (cond b seen (seen ++ x ∷ [])) n ≡ Some w → Origin seen (x ∷ xs) n w
    at true e h = inl h
    at false e h = elim (at_push seen x n w h) [
      | inl g ↦ inl g
      | inr g ↦ inr ([], xs, ap (λ v. v ∷ xs) g.1, subst (λ v. number_after seen v ≡ n) g.1 (not_seen (bytes_eq x) seen e ∙ g.0))
    ]

origin : (seen names : List (List ℕ)) (n : ℕ) (w : List ℕ) → slice_get (first_seen seen names) n ≡ Some w → Origin seen names n w
origin seen [] n w h = inl h
origin seen (x ∷ xs) n w h = elim (origin (with_name seen x) xs n w h) [
  | inl g ↦ origin_here seen x xs n w g
  | inr g ↦ inr (x ∷ g.0, g.1, ap (λ ns. x ∷ ns) g.2, g.3)
]

-- the item that a name comes from
abbrev Named : List Item → List ℕ → Type 0
Named items w = (i : Item) × Contains items i × (i.lexeme ≡ lexeme.Name) × (i.text ≡ w)

behind : (i : Item) (items : List Item) (w : List ℕ) → Named items w → Named (i ∷ items) w
behind i items w (j, (k, h, e), l, t) = (j, (suc k, omega arith, e), l, t)

name_here : (i : Item) (is : List Item) (w : List ℕ) (pre more : List (List ℕ)) → i.lexeme ≡ lexeme.Name → i.text ∷ names_in is ≡ pre ++ w ∷ more → ((ps : List (List ℕ)) → names_in is ≡ ps ++ w ∷ more → Named is w) → Named (i ∷ is) w
name_here i is w [] more l e r = (i, (0, omega arith, refl), l, cc)
name_here i is w (p ∷ ps) more l e r = behind i is w (r ps cc)

named_item : (items : List Item) (w : List ℕ) (pre more : List (List ℕ)) → names_in items ≡ pre ++ w ∷ more → Named items w
named_item [] w [] more e = absurd (cc)
named_item [] w (p ∷ ps) more e = absurd (cc)
named_item (i ∷ is) w pre more e = at i.lexeme refl e (λ ps h. named_item is w ps more h)
  where
    at : (l : Lexeme) → i.lexeme ≡ l → name_of l i.text ++ names_in is ≡ pre ++ w ∷ more → ((ps : List (List ℕ)) → names_in is ≡ ps ++ w ∷ more → Named is w) → Named (i ∷ is) w
    at lexeme.Name k h r = name_here i is w pre more k h r
    at (lexeme.Word v) k h r = behind i is w (r pre h)
    at lexeme.Whole k h r = behind i is w (r pre h)
    at lexeme.NatLit k h r = behind i is w (r pre h)
    at lexeme.Hole k h r = behind i is w (r pre h)
    at (lexeme.Mark v) k h r = behind i is w (r pre h)

in_map : (f : Item → Token) (items : List Item) (i : Item) → Contains items i → Contains (map f items) (f i)
in_map f [] i (k, h, e) = absurd (omega arith)
in_map f (x ∷ xs) i (zero, h, e) = (0, omega arith, ap f e)
in_map f (x ∷ xs) i (suc k, h, e) = let c = in_map f xs i (k, omega arith, e) in (suc c.0, omega (arith, c.1), c.2)

-- each name is the name of some token
pub used : (l : TokenList) → IsLexed l → (n : ℕ) (w : List ℕ) → slice_get l.names n ≡ Some w → IsUsed l.tokens n
used l k n w h =
    let names : List (List ℕ) = names_in k.1 in
    elim (origin [] names n w (sym (ap (λ ns. slice_get ns n) k.5) ∙ h)) [
      | inl g ↦ absurd (cc)
      | inr g ↦
          let i = named_item k.1 w g.0 g.1 g.2 in
          let num : number names w ≡ n = ap (λ ns. number ns w) g.2 ∙ numbered g.0 w g.1 ∙ g.3 in
          let kind : kind_of names i.0.lexeme i.0.text ≡ kind.Name n = ap (λ v. kind_of names v i.0.text) i.2 ∙ ap kind.Name (ap (number names) i.3 ∙ num) in
          (token_of names i.0, subst (λ ts. Contains ts (token_of names i.0)) (sym k.4) (in_map (token_of names) k.1 i.0 i.1), kind)
    ]
