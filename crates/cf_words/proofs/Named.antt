-- Commands and options by their words.
use Rattle.std.proofs.Common.{◌≡◌, ◌≢◌, ◌⊎◌, inl, inr, ℕ, ℤ, List, [], ◌∷◌, refl, sym, ap, ◌∙◌, arith}
use Rattle.std.specs.Prelude.{Some}
use Rattle.std.specs.List.{find}
use Rattle.std.specs.Str.{bytes_eq}
use Rattle.cf_words.specs.declared.grammar.CommandName.{CommandName}
use Rattle.cf_words.specs.declared.grammar.CommandName.TheVariants as names
use Rattle.cf_words.specs.declared.grammar.OptionName.{OptionName}
use Rattle.cf_words.specs.declared.grammar.OptionName.TheVariants as options
use Rattle.cf_words.specs.Lines.{IsNumber, command_text, option_text}
use Rattle.cf_words.proofs.Decisions.{Decided, same_text}

abbrev commands : List CommandName
commands = names.Core ∷ names.Build ∷ names.Run ∷ []

abbrev all_options : List OptionName
all_options = options.Steps ∷ options.Pages ∷ options.Words ∷ options.Limit ∷ []

-- ---- different ones have different words

command_found : (c : CommandName) → find (λ d. bytes_eq (command_text c) (command_text d)) commands ≡ Some c
command_found names.Core = refl
command_found names.Build = refl
command_found names.Run = refl

pub command_one : (c d : CommandName) → command_text c ≡ command_text d → c ≡ d
command_one c d e = let f : Some c ≡ Some d = sym (command_found c) ∙ ap (λ w. find (λ d. bytes_eq w (command_text d)) commands) e ∙ command_found d in cc

option_found : (o : OptionName) → find (λ p. bytes_eq (option_text o) (option_text p)) all_options ≡ Some o
option_found options.Steps = refl
option_found options.Pages = refl
option_found options.Words = refl
option_found options.Limit = refl

pub option_one : (o p : OptionName) → option_text o ≡ option_text p → o ≡ p
option_one o p e = let f : Some o ≡ Some p = sym (option_found o) ∙ ap (λ w. find (λ p. bytes_eq w (option_text p)) all_options) e ∙ option_found p in cc

-- ---- a word is one or none

abbrev NoneOf : {A : Type 0} → (A → List ℕ) → List A → List ℕ → Type 0
NoneOf text [] word = Unit {0}
NoneOf text (x ∷ xs) word = (word ≢ text x) × NoneOf text xs word

one_or_none : (A : Type 0) (text : A → List ℕ) (xs : List A) (word : List ℕ) → ((x : A) × (word ≡ text x)) ⊎ NoneOf text xs word
one_or_none A text [] word = inr tt
one_or_none A text (x ∷ xs) word = from (same_text word (text x)) (one_or_none A text xs word)
  where
    from : Decided (word ≡ text x) → ((x : A) × (word ≡ text x)) ⊎ NoneOf text xs word → ((x : A) × (word ≡ text x)) ⊎ NoneOf text (x ∷ xs) word
    from (inl e) r = inl (x, e)
    from (inr n) (inl p) = inl p
    from (inr n) (inr p) = inr (n, p)

no_command : (word : List ℕ) → NoneOf command_text commands word → (c : CommandName) → word ≢ command_text c
no_command word n names.Core = n.0
no_command word n names.Build = n.1.0
no_command word n names.Run = n.1.1.0

pub named_command : (word : List ℕ) → ((c : CommandName) × (word ≡ command_text c)) ⊎ ((c : CommandName) → word ≢ command_text c)
named_command word = elim (one_or_none CommandName command_text commands word) [ inl p ↦ inl p | inr n ↦ inr (no_command word n) ]

no_option : (word : List ℕ) → NoneOf option_text all_options word → (o : OptionName) → word ≢ option_text o
no_option word n options.Steps = n.0
no_option word n options.Pages = n.1.0
no_option word n options.Words = n.1.1.0
no_option word n options.Limit = n.1.1.1.0

pub named_option : (word : List ℕ) → ((o : OptionName) × (word ≡ option_text o)) ⊎ ((o : OptionName) → word ≢ option_text o)
named_option word = elim (one_or_none OptionName option_text all_options word) [ inl p ↦ inl p | inr n ↦ inr (no_option word n) ]

-- ---- an option's word is no number

pub option_is_no_number : (o : OptionName) (z : ℤ) → IsNumber (option_text o) z → ⊥
option_is_no_number options.Steps z n = let d = n.digits in absurd (omega (arith, d.1.0))
option_is_no_number options.Pages z n = let d = n.digits in absurd (omega (arith, d.1.0))
option_is_no_number options.Words z n = let d = n.digits in absurd (omega (arith, d.1.0))
option_is_no_number options.Limit z n = let d = n.digits in absurd (omega (arith, d.1.0))
