-- A number in memory is read and written in halves.
use Rattle.std.proofs.Common.{◌≡◌, ℕ, ◌+◌, ◌*◌, ◌/◌, ◌%◌, ◌≤◌, List, [], ◌∷◌, ◌++◌, length, take, drop, arith, refl, sym, ap, ◌∙◌, append_assoc, length-append, length-drop}
use Rattle.std.proofs.lemmas.List.{take_at, drop-drop, length-take-le}
use Rattle.std.proofs.Math.Seq.{drop-append-add}
use Rattle.wb_syntax.specs.Execute.{number_of, bytes_of, overwrite}

-- ---- reading

two_of : (xs : List ℕ) → 2 ≤ length xs → number_of (take 1 xs) + 256 * number_of (take 1 (drop 1 xs)) ≡ number_of (take 2 xs)
two_of [] h = absurd (omega (arith, h))
two_of (a ∷ []) h = absurd (omega (arith, h))
two_of (a ∷ b ∷ xs) h = omega arith

four_of : (xs : List ℕ) → 4 ≤ length xs → number_of (take 2 xs) + 65536 * number_of (take 2 (drop 2 xs)) ≡ number_of (take 4 xs)
four_of [] h = absurd (omega (arith, h))
four_of (a ∷ []) h = absurd (omega (arith, h))
four_of (a ∷ b ∷ []) h = absurd (omega (arith, h))
four_of (a ∷ b ∷ c ∷ []) h = absurd (omega (arith, h))
four_of (a ∷ b ∷ c ∷ d ∷ xs) h = omega arith

eight_of : (xs : List ℕ) → 8 ≤ length xs → number_of (take 4 xs) + 4294967296 * number_of (take 4 (drop 4 xs)) ≡ number_of (take 8 xs)
eight_of [] h = absurd (omega (arith, h))
eight_of (a ∷ []) h = absurd (omega (arith, h))
eight_of (a ∷ b ∷ []) h = absurd (omega (arith, h))
eight_of (a ∷ b ∷ c ∷ []) h = absurd (omega (arith, h))
eight_of (a ∷ b ∷ c ∷ d ∷ []) h = absurd (omega (arith, h))
eight_of (a ∷ b ∷ c ∷ d ∷ e ∷ []) h = absurd (omega (arith, h))
eight_of (a ∷ b ∷ c ∷ d ∷ e ∷ f ∷ []) h = absurd (omega (arith, h))
eight_of (a ∷ b ∷ c ∷ d ∷ e ∷ f ∷ g ∷ []) h = absurd (omega (arith, h))
eight_of (a ∷ b ∷ c ∷ d ∷ e ∷ f ∷ g ∷ k ∷ xs) h = omega arith

-- two halves, the second of which begins k bytes on
halves : (xs : List ℕ) (at k low high : ℕ) → low ≡ number_of (take k (drop at xs)) → high ≡ number_of (take k (drop (at + k) xs)) → (low ≡ number_of (take k (drop at xs))) × (high ≡ number_of (take k (drop k (drop at xs))))
halves xs at k low high l h = (l, h ∙ ap (λ ys. number_of (take k ys)) (sym (drop-drop k at xs)))

length_left : (xs : List ℕ) (at n : ℕ) → at + n ≤ length xs → n ≤ length (drop at xs)
length_left xs at n h = search (arith, length-drop)

pub read_two : (xs : List ℕ) (at low high : ℕ) → at + 2 ≤ length xs → low ≡ number_of (take 1 (drop at xs)) → high ≡ number_of (take 1 (drop (at + 1) xs)) → low + 256 * high ≡ number_of (take 2 (drop at xs))
read_two xs at low high b l h =
    let p = halves xs at 1 low high l h in
    let e = two_of (drop at xs) (length_left xs at 2 b) in
    ap (λ n. n + 256 * high) p.0 ∙ ap (λ n. number_of (take 1 (drop at xs)) + 256 * n) p.1 ∙ e

pub read_four : (xs : List ℕ) (at low high : ℕ) → at + 4 ≤ length xs → low ≡ number_of (take 2 (drop at xs)) → high ≡ number_of (take 2 (drop (at + 2) xs)) → low + 65536 * high ≡ number_of (take 4 (drop at xs))
read_four xs at low high b l h =
    let p = halves xs at 2 low high l h in
    let e = four_of (drop at xs) (length_left xs at 4 b) in
    ap (λ n. n + 65536 * high) p.0 ∙ ap (λ n. number_of (take 2 (drop at xs)) + 65536 * n) p.1 ∙ e

pub read_eight : (xs : List ℕ) (at low high : ℕ) → at + 8 ≤ length xs → low ≡ number_of (take 4 (drop at xs)) → high ≡ number_of (take 4 (drop (at + 4) xs)) → low + 4294967296 * high ≡ number_of (take 8 (drop at xs))
read_eight xs at low high b l h =
    let p = halves xs at 4 low high l h in
    let e = eight_of (drop at xs) (length_left xs at 8 b) in
    ap (λ n. n + 4294967296 * high) p.0 ∙ ap (λ n. number_of (take 4 (drop at xs)) + 4294967296 * n) p.1 ∙ e

-- ---- writing

-- what stands behind the first of two pieces
behind : (bs xs : List ℕ) (at k m : ℕ) → length xs ≡ k → at + k + m ≤ length bs → drop (at + k + m) (overwrite bs at xs) ≡ drop (at + k + m) bs
behind bs xs at k m lx h =
    let front : List ℕ = take at bs ++ xs in
    let rest : List ℕ = drop (at + length xs) bs in
    let lf : length front ≡ at + k = length-append (take at bs) xs ∙ ap (λ n. n + length xs) (length-take-le at bs (omega arith)) ∙ ap (λ n. at + n) lx in
    let e : overwrite bs at xs ≡ front ++ rest = sym (append_assoc (take at bs) xs rest) in
    let d : drop (length front + m) (front ++ rest) ≡ drop m rest = drop-append-add front rest m in
    let s : drop m rest ≡ drop (at + length xs + m) bs = drop-drop m (at + length xs) bs in
    ap (drop (at + k + m)) e ∙ ap (λ n. drop (n + m) (front ++ rest)) (sym lf) ∙ d ∙ s ∙ ap (λ n. drop (at + n + m) bs) lx

-- what stands before the second of two pieces
before : (bs xs : List ℕ) (at k : ℕ) → length xs ≡ k → at + k ≤ length bs → take (at + k) (overwrite bs at xs) ≡ take at bs ++ xs
before bs xs at k lx h =
    let front : List ℕ = take at bs ++ xs in
    let rest : List ℕ = drop (at + length xs) bs in
    let lf : length front ≡ at + k = length-append (take at bs) xs ∙ ap (λ n. n + length xs) (length-take-le at bs (omega arith)) ∙ ap (λ n. at + n) lx in
    let e : overwrite bs at xs ≡ front ++ rest = sym (append_assoc (take at bs) xs rest) in
    ap (take (at + k)) e ∙ take_at front rest (at + k) lf

-- two pieces one behind the other are one piece
seam : (bs xs ys : List ℕ) (at k : ℕ) → length xs ≡ k → at + k + length ys ≤ length bs → overwrite (overwrite bs at xs) (at + k) ys ≡ overwrite bs at (xs ++ ys)
seam bs xs ys at k lx h =
    let rest : List ℕ = drop (at + k + length ys) bs in
    let f = before bs xs at k lx (omega (arith, h)) in
    let b = behind bs xs at k (length ys) lx h in
    let n : at + k + length ys ≡ at + length (xs ++ ys) = omega (arith, length-append xs ys, lx) in
    ap (λ p. p ++ (ys ++ drop (at + k + length ys) (overwrite bs at xs))) f
    ∙ ap (λ r. take at bs ++ xs ++ (ys ++ r)) b
    ∙ append_assoc (take at bs) xs (ys ++ rest)
    ∙ ap (λ r. take at bs ++ r) (sym (append_assoc xs ys rest))
    ∙ ap (λ m. take at bs ++ (xs ++ ys ++ drop m bs)) n

pub write_two : (bs mid : List ℕ) (at n : ℕ) → at + 2 ≤ length bs → mid ≡ overwrite bs at (bytes_of 1 n) → overwrite mid (at + 1) (bytes_of 1 (n / 256)) ≡ overwrite bs at (bytes_of 2 n)
write_two bs mid at n h e = ap (λ m. overwrite m (at + 1) (bytes_of 1 (n / 256))) e ∙ seam bs (bytes_of 1 n) (bytes_of 1 (n / 256)) at 1 refl (omega (arith, h))

low_four : (n : ℕ) → bytes_of 2 n ++ bytes_of 2 (n / 65536) ≡ bytes_of 4 n
low_four n =
    let e : n / 256 / 256 ≡ n / 65536 = omega arith in
    ap (λ k. n % 256 ∷ n / 256 % 256 ∷ k % 256 ∷ k / 256 % 256 ∷ []) (sym e)

pub write_four : (bs mid : List ℕ) (at n : ℕ) → at + 4 ≤ length bs → mid ≡ overwrite bs at (bytes_of 2 n) → overwrite mid (at + 2) (bytes_of 2 (n / 65536)) ≡ overwrite bs at (bytes_of 4 n)
write_four bs mid at n h e = ap (λ m. overwrite m (at + 2) (bytes_of 2 (n / 65536))) e ∙ seam bs (bytes_of 2 n) (bytes_of 2 (n / 65536)) at 2 refl (omega (arith, h)) ∙ ap (overwrite bs at) (low_four n)

low_eight : (n : ℕ) → bytes_of 4 n ++ bytes_of 4 (n / 4294967296) ≡ bytes_of 8 n
low_eight n =
    let e : n / 256 / 256 / 256 / 256 ≡ n / 4294967296 = omega arith in
    ap (λ k. n % 256 ∷ n / 256 % 256 ∷ n / 256 / 256 % 256 ∷ n / 256 / 256 / 256 % 256 ∷ bytes_of 4 k) (sym e)

pub write_eight : (bs mid : List ℕ) (at n : ℕ) → at + 8 ≤ length bs → mid ≡ overwrite bs at (bytes_of 4 n) → overwrite mid (at + 4) (bytes_of 4 (n / 4294967296)) ≡ overwrite bs at (bytes_of 8 n)
write_eight bs mid at n h e = ap (λ m. overwrite m (at + 4) (bytes_of 4 (n / 4294967296))) e ∙ seam bs (bytes_of 4 n) (bytes_of 4 (n / 4294967296)) at 4 refl (omega (arith, h)) ∙ ap (overwrite bs at) (low_eight n)
