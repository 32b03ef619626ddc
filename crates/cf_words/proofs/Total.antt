-- Any words are a line or are refused.
use Rattle.std.proofs.Common.{◌≡◌, ◌≢◌, ◌⊎◌, inl, inr, ℕ, suc, ◌<◌, ◌^◌, ℤ, pos, negsuc, Bool, true, false, List, [], ◌∷◌, ◌++◌, length, refl, sym, ◌∙◌, subst, arith, append_assoc, append-nil}
use Rattle.std.specs.Prelude.{Option, Some, None, slice_index, FitsSigned}
use Rattle.std.specs.Int.{w64}
use Rattle.std.specs.Str.Parse.{AllDigits, digits_value, signed_digits_value, without_leading_sign}
use Rattle.cf_words.specs.declared.command.Command.{Command}
use Rattle.cf_words.specs.declared.given.Given.{Given}
use Rattle.cf_words.specs.declared.grammar.CommandName.{CommandName}
use Rattle.cf_words.specs.declared.grammar.OptionName.{OptionName}
use Rattle.cf_words.specs.declared.reading.Reading.{Reading}
use Rattle.cf_words.specs.declared.reading.Reading.TheVariants.{Start, Options, Wants, Numbers}
use Rattle.cf_words.specs.declared.reading.Step.{Step}
use Rattle.cf_words.specs.Lines.{IsLine, IsNumber, IsUsage, command_text, give, given, greatest, nothing, option_text, takes, takes_numbers}
use Rattle.cf_words.specs.Laws.{LineOrUsage}
use Rattle.cf_words.specs.Reading.{Goes, IsUpTo, NamesOption, TakesNumber, final, to}
use Rattle.cf_words.proofs.Decisions.{Decided, all_digits, both, less, same_number}
use Rattle.cf_words.proofs.Named.{named_command, named_option, option_is_no_number, option_one}
use Rattle.cf_words.proofs.Onward.{with_step}
use Rattle.cf_words.proofs.Stops.{HasRead, is_line, reads_more, starts, stops_at, stops_behind}

-- ---- one word more

up_to : (most : ℕ) (word : List ℕ) → ((n : ℕ) × IsUpTo most word n) ⊎ ((n : ℕ) → IsUpTo most word n → ⊥)
up_to most word = from (both (both (less 0 (length word)) (all_digits word)) (both (less 0 (digits_value 10 word)) (less (digits_value 10 word) (suc most))))
  where
    from : Decided (((0 < length word) × AllDigits 10 word) × ((0 < digits_value 10 word) × (digits_value 10 word < suc most))) → ((n : ℕ) × IsUpTo most word n) ⊎ ((n : ℕ) → IsUpTo most word n → ⊥)
    from (inl d) = inl (digits_value 10 word, record { writes = record { digits = (d.0.0, d.0.1); value = refl }; least = (let l = d.1.0 in omega (arith, l)); most = (let l = d.1.1 in omega (arith, l)) })
    from (inr not) = inr (λ n u.
        let w = u.writes in
        let d = w.digits in
        let v = w.value in
        let a = u.least in
        let b = u.most in
        not ((d.0, d.1), (omega (arith, a, v), omega (arith, b, v))))

fits : (z : ℤ) → Decided (FitsSigned w64 z)
fits (pos n) = elim (less n (2 ^ 63)) [ inl l ↦ inl (record { sfits = l }) | inr not ↦ inr (λ f. not f.sfits) ]
fits (negsuc n) = elim (less n (2 ^ 63)) [ inl l ↦ inl (record { sfits = l }) | inr not ↦ inr (λ f. not f.sfits) ]

whole : (word : List ℕ) → ((z : ℤ) × IsNumber word z) ⊎ ((z : ℤ) → IsNumber word z → ⊥)
whole word = from (same_number (slice_index word 0) 43) (both (both (less 0 (length (without_leading_sign word))) (all_digits (without_leading_sign word))) (fits (signed_digits_value 10 word)))
  where
    from : Decided (slice_index word 0 ≡ 43) → Decided (((0 < length (without_leading_sign word)) × AllDigits 10 (without_leading_sign word)) × FitsSigned w64 (signed_digits_value 10 word)) → ((z : ℤ) × IsNumber word z) ⊎ ((z : ℤ) → IsNumber word z → ⊥)
    from (inl plus) d = inr (λ z n. n.no_plus plus)
    from (inr not_plus) (inl d) = inl (signed_digits_value 10 word, record { no_plus = not_plus; digits = (d.0.0, d.0.1); value = refl; fits = d.1 })
    from (inr not_plus) (inr not) = inr (λ z n.
        let d = n.digits in
        not ((d.0, d.1), subst (FitsSigned w64) (sym n.value) n.fits))

-- a step, or none
abbrev Decides : Reading → List ℕ → Type 0
Decides s word = ((t : Step) × Goes s word t) ⊎ ((t : Step) → Goes s word t → ⊥)

-- one number more
number : (c : CommandName) (g : Given) (word : List ℕ) → ((t : Step) × TakesNumber c g word t) ⊎ ((t : Step) → TakesNumber c g word t → ⊥)
number c g word = from (takes_numbers c) refl (whole word)
  where
    from : (b : Bool) → takes_numbers c ≡ b → ((z : ℤ) × IsNumber word z) ⊎ ((z : ℤ) → IsNumber word z → ⊥) → ((t : Step) × TakesNumber c g word t) ⊎ ((t : Step) → TakesNumber c g word t → ⊥)
    from true e (inl n) = inl (record { after = Numbers c g; number = Some n.0 }, (n.0, e, n.1, refl))
    from true e (inr not) = inr (λ t h. not h.0 h.2)
    from false e d = inr (λ t h. let x : true ≡ false = sym h.1 ∙ e in cc)

option_or_number : (c : CommandName) (g : Given) (word : List ℕ) → ((o : OptionName) × (word ≡ option_text o)) ⊎ ((o : OptionName) → word ≢ option_text o) → Decides (Options c g) word
option_or_number c g word (inl d) = may (takes c d.0) refl (given d.0 g) refl
  where
    no_number : (t : Step) → TakesNumber c g word t → ⊥
    no_number t h = option_is_no_number d.0 h.0 (subst (λ v. IsNumber v h.0) d.1 h.2)

    -- it is this option or none
    same : (t : Step) (h : NamesOption c g word t) → h.0 ≡ d.0
    same t h = option_one h.0 d.0 (sym h.1 ∙ d.1)

    neither : ((t : Step) → NamesOption c g word t → ⊥) → (t : Step) → Goes (Options c g) word t → ⊥
    neither not t (inl h) = not t h
    neither not t (inr h) = no_number t h

    may : (b : Bool) → takes c d.0 ≡ b → (n : Option ℕ) → given d.0 g ≡ n → Decides (Options c g) word
    may true e None f = inl (to (Wants c g d.0), inl (d.0, d.1, e, f, refl))
    may false e n f = inr (neither (λ t h. let q = subst (λ o. takes c o ≡ true) (same t h) h.2 in let x : true ≡ false = sym q ∙ e in cc))
    may true e (Some n) f = inr (neither (λ t h. let q = subst (λ o. given o g ≡ None) (same t h) h.3 in let x : None ≡ Some n = sym q ∙ f in cc))
option_or_number c g word (inr not) = from (number c g word)
  where
    neither : ((t : Step) → TakesNumber c g word t → ⊥) → (t : Step) → Goes (Options c g) word t → ⊥
    neither none t (inl h) = not h.0 h.1
    neither none t (inr h) = none t h

    from : ((t : Step) × TakesNumber c g word t) ⊎ ((t : Step) → TakesNumber c g word t → ⊥) → Decides (Options c g) word
    from (inl n) = inl (n.0, inr n.1)
    from (inr none) = inr (neither none)

goes : (s : Reading) (word : List ℕ) → Decides s word
goes Start word = from (named_command word)
  where
    from : ((c : CommandName) × (word ≡ command_text c)) ⊎ ((c : CommandName) → word ≢ command_text c) → Decides Start word
    from (inl d) = inl (to (Options d.0 nothing), (d.0, d.1, refl))
    from (inr not) = inr (λ t g. not g.0 g.1)
goes (Options c g) word = option_or_number c g word (named_option word)
goes (Wants c g o) word = from (up_to (greatest o) word)
  where
    from : ((n : ℕ) × IsUpTo (greatest o) word n) ⊎ ((n : ℕ) → IsUpTo (greatest o) word n → ⊥) → Decides (Wants c g o) word
    from (inl d) = inl (to (Options c (give o d.0 g)), (d.0, d.1, refl))
    from (inr not) = inr (λ t h. not h.0 h.1)
goes (Numbers c g) word = number c g word

-- ---- all words

-- they are a line or are refused
abbrev Answers : List (List ℕ) → Type 0
Answers words = ((k : Command) × IsLine words k) ⊎ ((i : ℕ) × IsUsage words i)

answer : (s : Reading) (zs : List ℤ) (before words : List (List ℕ)) → HasRead before s zs → Answers (before ++ words)
answer s zs before [] r = from (final s zs) refl
  where
    from : (k : Option Command) → final s zs ≡ k → Answers (before ++ [])
    from (Some k) e = inl (k, subst (λ ws. IsLine ws k) (sym (append-nil before)) (is_line before s zs k r e))
    from None e = inr (length before, subst (λ ws. IsUsage ws (length before)) (sym (append-nil before)) (stops_behind before s zs r e))
answer s zs before (w ∷ ws) r = from (goes s w) (λ t g. answer t.after (with_step zs t) (before ++ w ∷ []) ws (reads_more before s zs t w r g))
  where
    from : Decides s w → ((t : Step) → Goes s w t → Answers ((before ++ w ∷ []) ++ ws)) → Answers (before ++ w ∷ ws)
    from (inl g) go = subst Answers (append_assoc before (w ∷ []) ws) (go g.0 g.1)
    from (inr not) go = inr (length before, stops_at before ws s zs w r not)

pub line_or_usage : LineOrUsage
line_or_usage words = (answer Start [] [] words starts, λ k i l u. u.no_line k l)
