-- A number that was stored in memory, and all else there.
use Rattle.std.proofs.Common.{◌≡◌, ◌⊎◌, inl, inr, ⊎_elim, ℕ, zero, suc, ◌+◌, ◌-◌, ◌*◌, ◌/◌, ◌%◌, ◌^◌, ◌≤◌, ◌<◌, List, [], ◌∷◌, ◌++◌, length, take, drop, Option, Some, None, slice_get, refl, sym, ap, ◌∙◌, arith, length-append, length-drop, pow-suc, drop_at}
use Rattle.std.proofs.lemmas.List.{take_at, take-take, take-append-le, drop-drop, drop-take, drop-append-le, length-take-le}
use Rattle.wb_syntax.specs.Execute.{number_of, bytes_of}
use Rattle.wb_steps.specs.Memory.{number_in, with_number, StoredIsLoaded, SizeStays, BytesStay, NumbersStay}

bytes_count : (k n : ℕ) → length (bytes_of k n) ≡ k
bytes_count zero n = refl
bytes_count (suc k) n = ap suc (bytes_count k (n / 256))

number_back : (k n : ℕ) → n < 256 ^ k → number_of (bytes_of k n) ≡ n
number_back zero n h = omega (arith, h)
number_back (suc k) n h =
    let e = pow-suc 256 k in
    let q : n / 256 < 256 ^ k = omega (arith, h, e) in
    ap (λ m. n % 256 + 256 * m) (number_back k (n / 256) q) ∙ omega arith

module _ (memory : List ℕ) (at count n : ℕ) (fits : at + count ≤ length memory) where
  abbrev bytes : List ℕ
  bytes = bytes_of count n

  abbrev behind : List ℕ
  behind = drop (at + length bytes) memory

  front : length (take at memory) ≡ at
  front = length-take-le at memory (let l = fits in omega (arith, l))

  pub loaded : n < 256 ^ count → number_in (with_number memory at count n) at count ≡ n
  loaded h =
      ap (λ xs. number_of (take count xs)) (drop_at (take at memory) (bytes ++ behind) at front)
      ∙ ap number_of (take_at bytes behind count (bytes_count count n))
      ∙ number_back count n h

  pub size : length (with_number memory at count n) ≡ length memory
  size =
      let c = bytes_count count n in
      let f = front in
      let l = fits in
      let b : length behind ≡ length memory - (at + length bytes) = length-drop (at + length bytes) memory in
      length-append (take at memory) (bytes ++ behind) ∙ ap (λ k. length (take at memory) + k) (length-append bytes behind) ∙ omega (arith, f, b, c, l)

  -- what stands before, and what stands behind
  stays_before : (from k : ℕ) → from + k ≤ at → take k (drop from (with_number memory at count n)) ≡ take k (drop from memory)
  stays_before from k l =
      let f = front in
      let d : length (drop from (take at memory)) ≡ length (take at memory) - from = length-drop from (take at memory) in
      let z : at ≡ from + (at - from) = omega (arith, l) in
      ap (take k) (drop-append-le from (take at memory) (bytes ++ behind) (omega (arith, f, l)))
      ∙ take-append-le k (drop from (take at memory)) (bytes ++ behind) (omega (arith, f, d, l))
      ∙ ap (λ i. take k (drop from (take i memory))) z
      ∙ ap (take k) (drop-take from (at - from) memory)
      ∙ take-take k (at - from) (drop from memory) (omega (arith, l))

  stays_behind : (from : ℕ) → at + count ≤ from → drop from (with_number memory at count n) ≡ drop from memory
  stays_behind from l =
      let c = bytes_count count n in
      let j = from - (at + count) in
      let all = take at memory ++ (bytes ++ behind) in
      let z : from ≡ at + (count + j) = omega (arith, l) in
      let y : (at + length bytes) + j ≡ from = omega (arith, c, l) in
      ap (λ i. drop i all) z
      ∙ sym (drop-drop (count + j) at all) ∙ ap (drop (count + j)) (drop_at (take at memory) (bytes ++ behind) at front)
      ∙ sym (drop-drop j count (bytes ++ behind)) ∙ ap (drop j) (drop_at bytes behind count c)
      ∙ drop-drop j (at + length bytes) memory ∙ ap (λ i. drop i memory) y

  pub others : (from k : ℕ) → ((from + k ≤ at) ⊎ (at + count ≤ from)) → take k (drop from (with_number memory at count n)) ≡ take k (drop from memory)
  others from k h = ⊎_elim (λ l. stays_before from k l) (λ l. ap (take k) (stays_behind from l)) h

-- an element is the first one of what is left behind those before it
abbrev first : List ℕ → Option ℕ
first [] = None
first (x ∷ xs) = Some x

first_is : (xs : List ℕ) (i : ℕ) → slice_get xs i ≡ first (take 1 (drop i xs))
first_is [] zero = refl
first_is [] (suc i) = refl
first_is (x ∷ xs) zero = refl
first_is (x ∷ xs) (suc i) = first_is xs i

pub stored_is_loaded : StoredIsLoaded
stored_is_loaded memory at count n l h = loaded memory at count n l h

pub size_stays : SizeStays
size_stays memory at count n l = size memory at count n l

pub bytes_stay : BytesStay
bytes_stay memory at count n i l h =
    let apart : (i + 1 ≤ at) ⊎ (at + count ≤ i) = ⊎_elim (λ g. inl (omega (arith, g))) (λ g. inr g) h in
    first_is (with_number memory at count n) i ∙ ap first (others memory at count n l i 1 apart) ∙ sym (first_is memory i)

pub numbers_stay : NumbersStay
numbers_stay memory at count n from k l h = ap number_of (others memory at count n l from k h)
