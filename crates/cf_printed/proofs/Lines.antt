-- The tokens of printed lines are the printed tokens.
use Rattle.std.proofs.Common.{◌≡◌, refl, sym, ◌∙◌, subst, arith, ℕ, ◌+◌, Bool, true, false, List, [], ◌∷◌, ◌++◌, length, Some, append_assoc, length-append}
use Rattle.std.specs.Prelude.{codes}
use Rattle.std.specs.Str.{all_scalars}
use Rattle.std.proofs.lemmas.Str.{encodes-append}
use Rattle.unicode_ident.proofs.Computing.{unicode_ident}
use Rattle.cf_lex.specs.Lexed.{AreChars}
use Rattle.cf_lex.specs.Tokens.{IsFront, Item, Lexes, spelled}
use Rattle.cf_lex.specs.declared.piece.Piece.TheVariants as read
use Rattle.cf_core_text.specs.declared.pieces.Piece.{Piece}
use Rattle.cf_core_text.specs.Names.{Names}
use Rattle.cf_core_text.specs.Text.{behind, gap, joined, spelling, tight}
use Rattle.cf_core_text.specs.Lines.{line_text}
use Rattle.cf_printed.specs.Printed.{item, items_behind, items_of, lexeme_of, line_items}
use Rattle.cf_printed.proofs.Longest.{Follows, Stops, front, no_piece, open_follows, opener, stopper_follows}
use Rattle.cf_printed.proofs.Neighbours.{AreTokens, IsToken, line_stops, space_stops, tight_follows}
use Rattle.cf_printed.proofs.Truth.{both, left, right}

scalars_append : (cs ds : List ℕ) → all_scalars cs ≡ true → all_scalars ds ≡ true → all_scalars (cs ++ ds) ≡ true
scalars_append [] ds a b = b
scalars_append (c ∷ cs) ds a b = both _ (all_scalars (cs ++ ds)) (left _ (all_scalars cs) a) (scalars_append cs ds (right _ (all_scalars cs) a) b)

-- texts one behind the other
pub chars_append : (a b cs ds : List ℕ) → AreChars a cs → AreChars b ds → AreChars (a ++ b) (cs ++ ds)
chars_append a b cs ds h k = (scalars_append cs ds h.0 k.0, encodes-append cs ds ∙ (λ i. h.1 i ++ k.1 i))

-- a text at byte n with its tokens, which go up to byte m; its first character does not go on with what stands in front
record Goes (before : List ℕ) (n : ℕ) (bytes : List ℕ) (items : List Item) (m : ℕ) : Type 0 where
  cs : List ℕ
  chars : AreChars bytes cs
  lexes : Lexes n cs items m []
  follows : Follows before cs

-- a line feed at byte n, and more
record Feeds (n : ℕ) (bytes : List ℕ) (items : List Item) (m : ℕ) : Type 0 where
  tail : List ℕ
  chars : AreChars bytes (10 ∷ tail)
  lexes : Lexes n (10 ∷ tail) items m []

blank_front : (c : ℕ) (rest : List ℕ) → spelled (c ∷ []) ≡ Some read.Blank → ((d : ℕ) → Stops c [] d) → IsFront read.Blank (c ∷ []) rest
blank_front c rest e s = front read.Blank (c ∷ []) rest e (open_follows (c ∷ []) rest c refl s)

space_front : (rest : List ℕ) → IsFront read.Blank (32 ∷ []) rest
unfolding unicode_ident
space_front rest = blank_front 32 rest refl (λ d. opener 32 d refl (λ m. omega arith) (λ c. refl))

line_front : (rest : List ℕ) → IsFront read.Blank (10 ∷ []) rest
unfolding unicode_ident
line_front rest = blank_front 10 rest refl (λ d. opener 10 d refl (λ m. omega arith) (λ c. refl))

abbrev gap_of : Bool → List ℕ
gap_of b = elim b [ true ↦ [] | false ↦ codes " " ]

gap_chars : (b : Bool) → AreChars (gap_of b) (gap_of b)
unfolding lib.Utf8.encode
gap_chars true = (refl, refl)
gap_chars false = (refl, refl)

-- over a gap
gapped : (b : Bool) (n k : ℕ) (cs : List ℕ) (items : List Item) (m : ℕ) → k ≡ n + length (gap_of b) → Lexes k cs items m [] → Lexes n (gap_of b ++ cs) items m []
unfolding lib.Utf8.encode
gapped true n k cs items m e l = let f : k ≡ n = omega (arith, e) in subst (λ i. Lexes i cs items m []) f l
gapped false n k cs items m e l = Lexes.skips n read.Blank (32 ∷ []) cs items m [] refl (space_front cs) (subst (λ i. Lexes i cs items m []) e l)

gap_follows : (N : Names) (p q : Piece) (t : IsToken N p) (u : IsToken N q) (more : List ℕ) (b : Bool) → tight p q ≡ b → Follows t.0 (gap_of b ++ (u.0 ++ more))
gap_follows N p q t u more true e = tight_follows N p q e t u more
gap_follows N p q t u more false e = stopper_follows t.0 (lexeme_of p) 32 (u.0 ++ more) t.2 space_stops

-- a token, and what follows it
taken : (N : Names) (n : ℕ) (p : Piece) (t : IsToken N p) (rest : List ℕ) (items : List Item) (m : ℕ) → Follows t.0 rest → Lexes (n + length (spelling N p)) rest items m [] → Lexes n (t.0 ++ rest) (item N n p ∷ items) m []
taken N n p t rest items m f l =
    subst (λ text. Lexes n (t.0 ++ rest) (record { start = n; lexeme = lexeme_of p; text = text } ∷ items) m []) t.1.1
    (Lexes.takes n (lexeme_of p) t.0 rest items m [] (front (read.Token (lexeme_of p)) t.0 rest t.2 f) (subst (λ text. Lexes (n + length text) rest items m []) (sym t.1.1) l))

-- tokens behind another one, and then a line feed
lexed_behind : (N : Names) (n : ℕ) (p : Piece) (ps : List Piece) (t : IsToken N p) → AreTokens N ps → (k : ℕ) (bytes : List ℕ) (items : List Item) (m : ℕ) → k ≡ n + length (behind N p ps) → Feeds k bytes items m → Goes t.0 n (behind N p ps ++ bytes) (items_behind N n p ps ++ items) m
lexed_behind N n p [] t ts k bytes items m e f =
    let g : k ≡ n = omega (arith, e) in
    record { cs = 10 ∷ f.tail; chars = f.chars; lexes = subst (λ i. Lexes i (10 ∷ f.tail) items m []) g f.lexes; follows = stopper_follows t.0 (lexeme_of p) 10 f.tail t.2 line_stops }
lexed_behind N n p (q ∷ qs) t ts k bytes items m e f =
    let a : ℕ = n + length (gap p q) in
    let b : ℕ = a + length (spelling N q) in
    let h : k ≡ b + length (behind N q qs) = omega (arith, e, length-append (gap p q ++ spelling N q) (behind N q qs), length-append (gap p q) (spelling N q)) in
    let r = lexed_behind N b q qs ts.0 ts.1 k bytes items m h f in
    let same : ((gap p q ++ spelling N q) ++ behind N q qs) ++ bytes ≡ gap p q ++ (spelling N q ++ (behind N q qs ++ bytes)) = simp append_assoc in
    record {
      cs = gap p q ++ (ts.0.0 ++ r.cs);
      chars = subst (λ z. AreChars z (gap p q ++ (ts.0.0 ++ r.cs))) (sym same)
          (chars_append (gap p q) (spelling N q ++ (behind N q qs ++ bytes)) (gap p q) (ts.0.0 ++ r.cs) (gap_chars (tight p q)) (chars_append (spelling N q) (behind N q qs ++ bytes) ts.0.0 r.cs ts.0.1 r.chars));
      lexes = gapped (tight p q) n a (ts.0.0 ++ r.cs) (item N a q ∷ (items_behind N b q qs ++ items)) m refl (taken N a q ts.0 r.cs (items_behind N b q qs ++ items) m r.follows r.lexes);
      follows = gap_follows N p q t ts.0 r.cs (tight p q) refl;
    }

-- a text at byte n with its tokens, which go up to its end
pub record Reads (n : ℕ) (bytes : List ℕ) (items : List Item) (m : ℕ) : Type 0 where
  pub cs : List ℕ
  pub chars : AreChars bytes cs
  pub lexes : Lexes n cs items m []

fed : (n : ℕ) (bytes : List ℕ) (items : List Item) (m : ℕ) → Reads (n + 1) bytes items m → Feeds n (10 ∷ bytes) items m
unfolding lib.Utf8.encode
fed n bytes items m r = record { tail = r.cs; chars = chars_append (10 ∷ []) bytes (10 ∷ []) r.cs (refl, refl) r.chars; lexes = Lexes.skips n read.Blank (10 ∷ []) r.cs items m [] refl (line_front r.cs) r.lexes }

line : (N : Names) (n : ℕ) (ps : List Piece) → AreTokens N ps → (k : ℕ) (bytes : List ℕ) (items : List Item) (m : ℕ) → k ≡ n + length (joined N ps) → Feeds k bytes items m → Reads n (joined N ps ++ bytes) (items_of N n ps ++ items) m
line N n [] ts k bytes items m e f = let g : k ≡ n = omega (arith, e) in record { cs = 10 ∷ f.tail; chars = f.chars; lexes = subst (λ i. Lexes i (10 ∷ f.tail) items m []) g f.lexes }
line N n (p ∷ ps) ts k bytes items m e f =
    let b : ℕ = n + length (spelling N p) in
    let h : k ≡ b + length (behind N p ps) = omega (arith, e, length-append (spelling N p) (behind N p ps)) in
    let r = lexed_behind N b p ps ts.0 ts.1 k bytes items m h f in
    record {
      cs = ts.0.0 ++ r.cs;
      chars = subst (λ z. AreChars z (ts.0.0 ++ r.cs)) (sym (append_assoc (spelling N p) (behind N p ps) bytes)) (chars_append (spelling N p) (behind N p ps ++ bytes) ts.0.0 r.cs ts.0.1 r.chars);
      lexes = taken N n p ts.0 r.cs (items_behind N b p ps ++ items) m r.follows r.lexes;
    }

abbrev pub AreLines : Names → List (List Piece) → Type 0
AreLines N [] = Unit {0}
AreLines N (l ∷ ls) = AreTokens N l × AreLines N ls

-- the tokens of lines
pub lexed_lines : (N : Names) (n : ℕ) (ls : List (List Piece)) → AreLines N ls → (m : ℕ) → m ≡ n + length (line_text N ls) → Reads n (line_text N ls) (line_items N n ls) m
lexed_lines N n [] ts m e = let g : n ≡ m = omega (arith, e) in record { cs = []; chars = (refl, refl); lexes = subst (λ i. Lexes n [] [] i []) g (Lexes.stops n [] no_piece) }
lexed_lines N n (l ∷ ls) ts m e =
    let k : ℕ = n + length (joined N l) in
    let h : m ≡ (k + 1) + length (line_text N ls) = omega (arith, e, length-append (joined N l) (10 ∷ line_text N ls)) in
    line N n l ts.0 k (10 ∷ line_text N ls) (line_items N (k + 1) ls) m refl (fed k (line_text N ls) (line_items N (k + 1) ls) m (lexed_lines N (k + 1) ls ts.1 m h))
