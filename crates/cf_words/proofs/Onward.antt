-- What remains of a line that is read word by word.
use Rattle.std.proofs.Common.{◌≡◌, ◌≢◌, ◌⊎◌, inl, inr, ℕ, ℤ, true, List, [], ◌∷◌, ◌++◌, codes, refl, sym, ap, ◌∙◌, subst, arith, rules, append_assoc, append-nil}
use Rattle.std.specs.Prelude.{Option, Some, None, MatchOption}
use Rattle.cf_words.specs.declared.command.Command.{Command}
use Rattle.cf_words.specs.declared.given.Given.{Given}
use Rattle.cf_words.specs.declared.grammar.CommandName.{CommandName}
use Rattle.cf_words.specs.declared.grammar.CommandName.TheVariants as names
use Rattle.cf_words.specs.declared.grammar.OptionName.{OptionName}
use Rattle.cf_words.specs.declared.grammar.OptionName.TheVariants as options
use Rattle.cf_words.specs.declared.reading.Reading.{Reading}
use Rattle.cf_words.specs.declared.reading.Reading.TheVariants.{Start, Options, Wants, Numbers}
use Rattle.cf_words.specs.declared.reading.Step.{Step}
use Rattle.cf_words.specs.Lines.{AreNumbers, AreOptions, IsLine, IsNumber, MayGive, command, command_text, give, given, nothing, option_text, takes, takes_numbers}
use Rattle.cf_words.specs.Reading.{Goes, NamesOption, TakesNumber, final, numbers_of, to}
use Rattle.cf_words.proofs.Named.{command_one, option_one, option_is_no_number}

-- with these words behind it, what has been read, and the numbers zs, become the line of this command
abbrev pub Rest : Reading → List ℤ → List (List ℕ) → Command → Type 0
Rest Start zs words k = (zs ≡ []) × IsLine words k
Rest (Options c g) zs words k = (after : Given) × (ns : List ℤ) × AreOptions c g words after ns × (command c after (zs ++ ns) ≡ k)
Rest (Wants c g o) zs words k = (after : Given) × (ns : List ℤ) × AreOptions c g (option_text o ∷ words) after ns × (command c after (zs ++ ns) ≡ k)
Rest (Numbers c g) zs words k = (ns : List ℤ) × AreNumbers c words ns × (command c g (zs ++ ns) ≡ k)

-- an option that is wanted may be given; there are no numbers before the command's name
abbrev pub IsMet : Reading → List ℤ → Type 0
IsMet Start zs = zs ≡ []
IsMet (Options c g) zs = Unit {0}
IsMet (Wants c g o) zs = (takes c o ≡ true) × (given o g ≡ None)
IsMet (Numbers c g) zs = Unit {0}

-- the numbers with those of one more step
abbrev pub with_step : List ℤ → Step → List ℤ
with_step zs step = zs ++ numbers_of step.number

-- ---- the first words of options

head_is : (v w : List ℕ) (vs ws : List (List ℕ)) → v ∷ vs ≡ w ∷ ws → v ≡ w
head_is v w vs ws e = cc

tail_is : (v w : List ℕ) (vs ws : List (List ℕ)) → v ∷ vs ≡ w ∷ ws → vs ≡ ws
tail_is v w vs ws e = cc

-- none, or one and more numbers
abbrev HasNumber : CommandName → List (List ℕ) → List ℤ → Type 0
HasNumber c words zs = (word : List ℕ) × (z : ℤ) × (more : List (List ℕ)) × (ns : List ℤ) × (words ≡ word ∷ more) × (zs ≡ z ∷ ns) × (takes_numbers c ≡ true) × IsNumber word z × AreNumbers c more ns

abbrev pub UnfoldsNumbers : CommandName → List (List ℕ) → List ℤ → Type 0
UnfoldsNumbers c words zs = ((words ≡ []) × (zs ≡ [])) ⊎ HasNumber c words zs

first_number : (c : CommandName) (words : List (List ℕ)) (zs : List ℤ) → AreNumbers c words zs → UnfoldsNumbers c words zs
first_number c words zs AreNumbers.none = inl (refl, refl)
first_number c words zs (AreNumbers.number {word = word} {z = z} {words = more} {zs = ns} t n a) = inr (word, z, more, ns, refl, refl, t, n, a)

-- an option and more, or numbers alone
abbrev HasOption : CommandName → (g after : Given) → List (List ℕ) → List ℤ → Type 0
HasOption c g after words zs = (o : OptionName) × (word : List ℕ) × (n : ℕ) × (more : List (List ℕ)) × (words ≡ option_text o ∷ word ∷ more) × MayGive c g o word n × AreOptions c (give o n g) more after zs

abbrev Unfolds : CommandName → (g after : Given) → List (List ℕ) → List ℤ → Type 0
Unfolds c g after words zs = ((g ≡ after) × AreNumbers c words zs) ⊎ HasOption c g after words zs

first_option : (c : CommandName) (g after : Given) (words : List (List ℕ)) (zs : List ℤ) → AreOptions c g words after zs → Unfolds c g after words zs
first_option c g after words zs (AreOptions.rest a) = inl (refl, a)
first_option c g after words zs (AreOptions.option {o = o} {word = word} {n = n} {words = more} m a) = inr (o, word, n, more, refl, m, a)

-- numbers do not begin with an option's name
no_option_first : (c : CommandName) (o : OptionName) (words : List (List ℕ)) (zs : List ℤ) → AreNumbers c (option_text o ∷ words) zs → ⊥
no_option_first c o words zs a = from (first_number c (option_text o ∷ words) zs a)
  where
    from : UnfoldsNumbers c (option_text o ∷ words) zs → ⊥
    from (inl r) = let e = r.0 in cc
    from (inr r) = option_is_no_number o r.1 (subst (λ w. IsNumber w r.1) (sym (head_is _ _ _ _ r.4)) r.7)

-- the option that these words begin with
given_option : (c : CommandName) (g after : Given) (o : OptionName) (word : List ℕ) (words : List (List ℕ)) (zs : List ℤ) → AreOptions c g (option_text o ∷ word ∷ words) after zs → (n : ℕ) × MayGive c g o word n × AreOptions c (give o n g) words after zs
given_option c g after o word words zs a = from (first_option c g after _ zs a)
  where
    from : Unfolds c g after (option_text o ∷ word ∷ words) zs
        → (n : ℕ) × MayGive c g o word n × AreOptions c (give o n g) words after zs
    from (inl r) = absurd (no_option_first c o (word ∷ words) zs r.1)
    from (inr r) =
        let t = tail_is _ _ _ _ r.4 in
        let same : r.0 ≡ o = sym (option_one o r.0 (head_is _ _ _ _ r.4)) in
        let a = subst (λ v. MayGive c g r.0 v r.2) (sym (head_is _ _ _ _ t)) r.5 in
        let b = subst (λ vs. AreOptions c (give r.0 r.2 g) vs after zs) (sym (tail_is _ _ _ _ t)) r.6 in
        (r.2, subst (λ p. MayGive c g p word r.2) same a, subst (λ p. AreOptions c (give p r.2 g) words after zs) same b)

-- ---- one word more

-- one number more
takes_on : (c : CommandName) (g : Given) (zs : List ℤ) (w : List ℕ) (ws : List (List ℕ)) (ns : List ℤ) (k : Command) → AreNumbers c (w ∷ ws) ns → command c g (zs ++ ns) ≡ k → (step : Step) × TakesNumber c g w step × Rest step.after (with_step zs step) ws k
takes_on c g zs w ws ns k a e = from (first_number c (w ∷ ws) ns a)
  where
    from : UnfoldsNumbers c (w ∷ ws) ns → (step : Step) × TakesNumber c g w step × Rest step.after (with_step zs step) ws k
    from (inl r) = let f = r.0 in cc
    from (inr r) =
        let n = subst (λ v. IsNumber v r.1) (sym (head_is _ _ _ _ r.4)) r.7 in
        let b = subst (λ vs. AreNumbers c vs r.3) (sym (tail_is _ _ _ _ r.4)) r.8 in
        (record { after = Numbers c g; number = Some r.1 }, (r.1, r.6, n, refl), (r.3, b, ap (command c g) (append_assoc zs (r.1 ∷ []) r.3) ∙ ap (λ l. command c g (zs ++ l)) (sym r.5) ∙ e))

-- the command's name
begins_line : (zs : List ℤ) (w : List ℕ) (ws : List (List ℕ)) (k : Command) → zs ≡ [] → IsLine (w ∷ ws) k → (step : Step) × Goes Start w step × Rest step.after (with_step zs step) ws k
begins_line zs w ws k e (IsLine.line {c = c} {g = g} {zs = ns} a) = (to (Options c nothing), (c, refl, refl), (g, ns, a, ap (λ l. command c g ((l ++ []) ++ ns)) e))

pub goes_on : (s : Reading) (zs : List ℤ) (w : List ℕ) (ws : List (List ℕ)) (k : Command) → Rest s zs (w ∷ ws) k → (step : Step) × Goes s w step × Rest step.after (with_step zs step) ws k
goes_on Start zs w ws k r = begins_line zs w ws k r.0 r.1
goes_on (Options c g) zs w ws k r = from (first_option c g r.0 _ r.1 r.2)
  where
    from : Unfolds c g r.0 (w ∷ ws) r.1
        → (step : Step) × Goes (Options c g) w step × Rest step.after (with_step zs step) ws k
    from (inl q) =
        let t = takes_on c g zs w ws r.1 k q.1 (ap (λ h. command c h (zs ++ r.1)) q.0 ∙ r.3) in
        (t.0, inr t.1, t.2)
    from (inr q) =
        let m = q.5 in
        (to (Wants c g q.0), inl (q.0, head_is _ _ _ _ q.4, m.belongs, m.once, refl), (r.0, r.1, subst (λ vs. AreOptions c g (option_text q.0 ∷ vs) r.0 r.1) (sym (tail_is _ _ _ _ q.4)) (AreOptions.option q.5 q.6), ap (λ l. command c r.0 (l ++ r.1)) (append-nil zs) ∙ r.3))
goes_on (Wants c g o) zs w ws k r =
    let q = given_option c g r.0 o w ws r.1 r.2 in
    let m = q.1 in
    (to (Options c (give o q.0 g)), (q.0, record { writes = m.writes; least = m.least; most = m.most }, refl), (r.0, r.1, q.2, ap (λ l. command c r.0 (l ++ r.1)) (append-nil zs) ∙ r.3))
goes_on (Numbers c g) zs w ws k r = takes_on c g zs w ws r.0 k r.1 r.2

-- one number back
takes_back : (c : CommandName) (g : Given) (zs : List ℤ) (step : Step) (w : List ℕ) (ws : List (List ℕ)) (k : Command) → TakesNumber c g w step → Rest step.after (with_step zs step) ws k → (ns : List ℤ) × AreNumbers c (w ∷ ws) ns × (command c g (zs ++ ns) ≡ k)
takes_back c g zs step w ws k h r =
    let q = subst (λ s. Rest s.after (with_step zs s) ws k) h.3 r in
    (h.0 ∷ q.0, AreNumbers.number h.1 h.2 q.1, ap (command c g) (sym (append_assoc zs (h.0 ∷ []) q.0)) ∙ q.2)

pub goes_back : (s : Reading) (zs : List ℤ) (step : Step) (w : List ℕ) (ws : List (List ℕ)) (k : Command) → IsMet s zs → Goes s w step → Rest step.after (with_step zs step) ws k → Rest s zs (w ∷ ws) k
goes_back Start zs step w ws k met h r =
    let q = subst (λ s. Rest s.after (with_step zs s) ws k) h.2 r in
    let e : command h.0 q.0 q.1 ≡ k = ap (λ l. command h.0 q.0 ((l ++ []) ++ q.1)) (sym met) ∙ q.3 in
    (met, subst (λ v. IsLine (v ∷ ws) k) (sym h.1) (subst (λ k. IsLine (command_text h.0 ∷ ws) k) e (IsLine.line q.2)))
goes_back (Options c g) zs step w ws k met h r = from h
  where
    from : NamesOption c g w step ⊎ TakesNumber c g w step → Rest (Options c g) zs (w ∷ ws) k
    from (inl p) =
        let q = subst (λ s. Rest s.after (with_step zs s) ws k) p.4 r in
        (q.0, q.1, subst (λ v. AreOptions c g (v ∷ ws) q.0 q.1) (sym p.1) q.2, ap (λ l. command c q.0 (l ++ q.1)) (sym (append-nil zs)) ∙ q.3)
    from (inr p) =
        let q = takes_back c g zs step w ws k p r in
        (g, q.0, AreOptions.rest q.1, q.2)
goes_back (Wants c g o) zs step w ws k met h r =
    let q = subst (λ s. Rest s.after (with_step zs s) ws k) h.2 r in
    let n = h.1 in
    (q.0, q.1, AreOptions.option (record { belongs = met.0; once = met.1; writes = n.writes; least = n.least; most = n.most }) q.2, ap (λ l. command c q.0 (l ++ q.1)) (sym (append-nil zs)) ∙ q.3)
goes_back (Numbers c g) zs step w ws k met h r = takes_back c g zs step w ws k h r

-- to one state at most
takes_one : (c : CommandName) (g : Given) (t u : Step) (w : List ℕ) → TakesNumber c g w t → TakesNumber c g w u → t ≡ u
takes_one c g t u w p q =
    let a = p.2 in
    let b = q.2 in
    p.3 ∙ ap (λ z. record { after = Numbers c g; number = Some z }) (sym a.value ∙ b.value) ∙ sym q.3

apart : (c : CommandName) (g : Given) (t u : Step) (w : List ℕ) → NamesOption c g w t → TakesNumber c g w u → ⊥
apart c g t u w p q = option_is_no_number p.0 q.0 (subst (λ v. IsNumber v q.0) p.1 q.2)

pub goes_one : (s : Reading) (t u : Step) (w : List ℕ) → Goes s w t → Goes s w u → t ≡ u
goes_one Start t u w p q = p.2 ∙ ap (λ c. to (Options c nothing)) (command_one p.0 q.0 (sym p.1 ∙ q.1)) ∙ sym q.2
goes_one (Options c g) t u w p q = from p q
  where
    from : NamesOption c g w t ⊎ TakesNumber c g w t → NamesOption c g w u ⊎ TakesNumber c g w u → t ≡ u
    from (inl a) (inl b) = a.4 ∙ ap (λ o. to (Wants c g o)) (option_one a.0 b.0 (sym a.1 ∙ b.1)) ∙ sym b.4
    from (inl a) (inr b) = absurd (apart c g t u w a b)
    from (inr a) (inl b) = absurd (apart c g u t w b a)
    from (inr a) (inr b) = takes_one c g t u w a b
goes_one (Wants c g o) t u w p q =
    let m = p.1 in
    let n = q.1 in
    let a = m.writes in
    let b = n.writes in
    p.2 ∙ ap (λ n. to (Options c (give o n g))) (sym a.value ∙ b.value) ∙ sym q.2
goes_one (Numbers c g) t u w p q = takes_one c g t u w p q

takes_met : (c : CommandName) (g : Given) (zs : List ℤ) (t : Step) (w : List ℕ) → TakesNumber c g w t → IsMet t.after (with_step zs t)
takes_met c g zs t w h = subst (λ s. IsMet s.after (with_step zs s)) (sym h.3) tt

pub goes_met : (s : Reading) (zs : List ℤ) (t : Step) (w : List ℕ) → Goes s w t → IsMet t.after (with_step zs t)
goes_met Start zs t w h = subst (λ s. IsMet s.after (with_step zs s)) (sym h.2) tt
goes_met (Options c g) zs t w h = from h
  where
    from : NamesOption c g w t ⊎ TakesNumber c g w t → IsMet t.after (with_step zs t)
    from (inl p) = subst (λ s. IsMet s.after (with_step zs s)) (sym p.4) (p.2, p.3)
    from (inr p) = takes_met c g zs t w p
goes_met (Wants c g o) zs t w h = subst (λ s. IsMet s.after (with_step zs s)) (sym h.2) tt
goes_met (Numbers c g) zs t w h = takes_met c g zs t w h

-- ---- ends

pub ends : (s : Reading) (zs : List ℤ) (k : Command) → final s zs ≡ Some k → Rest s zs [] k
ends Start zs k e = cc
ends (Options c g) zs k e = (g, [], AreOptions.rest AreNumbers.none, ap (command c g) (append-nil zs) ∙ (let f : Some (command c g zs) ≡ Some k = e in cc))
ends (Wants c g o) zs k e = cc
ends (Numbers c g) zs k e = ([], AreNumbers.none, ap (command c g) (append-nil zs) ∙ (let f : Some (command c g zs) ≡ Some k = e in cc))

-- no word more
no_words : (words : List (List ℕ)) (k : Command) → IsLine words k → words ≡ [] → ⊥
no_words words k (IsLine.line a) e = cc

last_option : (c : CommandName) (g after : Given) (o : OptionName) (zs : List ℤ) → AreOptions c g (option_text o ∷ []) after zs → ⊥
last_option c g after o zs a = from (first_option c g after _ zs a)
  where
    from : Unfolds c g after (option_text o ∷ []) zs → ⊥
    from (inl r) = no_option_first c o [] zs r.1
    from (inr r) = let t = tail_is _ _ _ _ r.4 in cc

no_numbers : (c : CommandName) (g : Given) (zs ns : List ℤ) (k : Command) → AreNumbers c [] ns → command c g (zs ++ ns) ≡ k → command c g zs ≡ k
no_numbers c g zs ns k a e = from (first_number c [] ns a)
  where
    from : UnfoldsNumbers c [] ns → command c g zs ≡ k
    from (inl r) = ap (command c g) (sym (append-nil zs)) ∙ ap (λ l. command c g (zs ++ l)) (sym r.1) ∙ e
    from (inr r) = let f = r.4 in cc

pub is_end : (s : Reading) (zs : List ℤ) (k : Command) → Rest s zs [] k → final s zs ≡ Some k
is_end Start zs k r = absurd (no_words [] k r.1 refl)
is_end (Options c g) zs k r = from (first_option c g r.0 [] r.1 r.2)
  where
    from : Unfolds c g r.0 [] r.1 → Some (command c g zs) ≡ Some k
    from (inl q) = ap Some (no_numbers c g zs r.1 k q.1 (ap (λ h. command c h (zs ++ r.1)) q.0 ∙ r.3))
    from (inr q) = let e = q.4 in cc
is_end (Wants c g o) zs k r = absurd (last_option c g r.0 o r.1 r.2)
is_end (Numbers c g) zs k r = ap Some (no_numbers c g zs r.0 k r.1 r.2)

-- what has been read can become a line
one_writes : (c : CommandName) (g : Given) (o : OptionName) → takes c o ≡ true → given o g ≡ None → MayGive c g o (codes "1") 1
one_writes c g options.Steps t n = record { belongs = t; once = n; writes = record { digits = search rules; value = refl }; least = omega arith; most = omega arith }
one_writes c g options.Pages t n = record { belongs = t; once = n; writes = record { digits = search rules; value = refl }; least = omega arith; most = omega arith }
one_writes c g options.Words t n = record { belongs = t; once = n; writes = record { digits = search rules; value = refl }; least = omega arith; most = omega arith }
one_writes c g options.Limit t n = record { belongs = t; once = n; writes = record { digits = search rules; value = refl }; least = omega arith; most = omega arith }

pub alive : (s : Reading) (zs : List ℤ) → IsMet s zs → (more : List (List ℕ)) × (k : Command) × Rest s zs more k
alive Start zs met = (codes "core" ∷ [], command names.Core nothing [], (met, IsLine.line {c = names.Core} (AreOptions.rest AreNumbers.none)))
alive (Options c g) zs met = ([], command c g (zs ++ []), (g, [], AreOptions.rest AreNumbers.none, refl))
alive (Wants c g o) zs met = (codes "1" ∷ [], command c (give o 1 g) (zs ++ []), (give o 1 g, [], AreOptions.option (one_writes c g o met.0 met.1) (AreOptions.rest AreNumbers.none), refl))
alive (Numbers c g) zs met = ([], command c g (zs ++ []), ([], AreNumbers.none, refl))

-- ---- what `next` answers where the word names no option

pub past_options : (c : CommandName) (g : Given) (w : List ℕ) (r : Option Step) → ((o : OptionName) → w ≢ option_text o) → MatchOption r ((t : Step) → TakesNumber c g w t → ⊥) (λ t. TakesNumber c g w t) → MatchOption r ((t : Step) → Goes (Options c g) w t → ⊥) (λ t. Goes (Options c g) w t)
past_options c g w None no_name h = λ t. from t
  where
    from : (t : Step) → NamesOption c g w t ⊎ TakesNumber c g w t → ⊥
    from t (inl p) = no_name p.0 p.1
    from t (inr p) = h t p
past_options c g w (Some t) no_name h = inr h
