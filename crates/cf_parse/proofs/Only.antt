-- A value whose meaning is of a kind is of the variant for that kind.
use Rattle.std.proofs.Common.{◌≡◌, refl, ℕ, Bool, Option}
use Rattle.std.specs.Prelude.{Box}
use Rattle.std.specs.declared.alloc.Global.{Global}
use Rattle.std.specs.declared.vec.Vec.{Vec}
use Rattle.cf_tree.specs.declared.decls.CtorTree as ctors
use Rattle.cf_tree.specs.declared.decls.Decl.{Decl}
use Rattle.cf_tree.specs.declared.forms.Branch.{Branch}
use Rattle.cf_tree.specs.Tree.{Program, Tree}
use Rattle.cf_tree.specs.View.{Text}
use Rattle.cf_parse.specs.declared.parts.Argument.{Argument}
use Rattle.cf_parse.specs.declared.parts.Domain.{Domain}
use Rattle.cf_syntax.specs.declared.source.Source.{Source}
use Rattle.cf_parse.specs.declared.values.Value.{Value}
use Rattle.cf_parse.specs.declared.values.Value.TheVariants as value
use Rattle.cf_parse.specs.Kinds as kind
use Rattle.cf_parse.specs.Kinds.{Kind, Fits, IsToken, a_token, a_name, a_whole, a_natlit, a_word, a_term, a_binder, a_domain, an_argument, an_onto, brackets, an_arm, a_ctor, a_decl, a_program, none, more, left_out, given}
use Rattle.cf_parse.specs.Meaning.{Sem}
use Rattle.cf_parse.specs.Meaning as meant
use Rattle.cf_parse.specs.Values.{sem}

pub term_only : (s : Source) (v : Value) → Fits kind.Term (sem s v) → (t : Box Tree Global) × (v ≡ value.Term t)
term_only s (value.Token at) h = elim h [ ]
term_only s value.Nothing h = elim h [ ]
term_only s (value.Term t) h = (t, refl)
term_only s (value.Binder b) h = elim h [ ]
term_only s (value.Domain d) h = elim h [ ]
term_only s (value.Argument u) h = elim h [ ]
term_only s (value.Onto o t) h = elim h [ ]
term_only s (value.Bracketed ts) h = elim h [ ]
term_only s (value.Arm b) h = elim h [ ]
term_only s (value.Ctor c) h = elim h [ ]
term_only s (value.Decl d) h = elim h [ ]
term_only s (value.Program p) h = elim h [ ]
term_only s (value.Tokens n ns) h = elim h [ ]
term_only s (value.Terms t ts) h = elim h [ ]
term_only s (value.Binders b bs) h = elim h [ ]
term_only s (value.Arguments u us) h = elim h [ ]
term_only s (value.Arms b bs) h = elim h [ ]
term_only s (value.Ctors c cs) h = elim h [ ]
term_only s (value.Decls d ds) h = elim h [ ]

pub binder_only : (s : Source) (v : Value) → Fits kind.Binder (sem s v) → (b : Option Text) × (v ≡ value.Binder b)
binder_only s (value.Token at) h = elim h [ ]
binder_only s value.Nothing h = elim h [ ]
binder_only s (value.Term t) h = elim h [ ]
binder_only s (value.Binder b) h = (b, refl)
binder_only s (value.Domain d) h = elim h [ ]
binder_only s (value.Argument u) h = elim h [ ]
binder_only s (value.Onto o t) h = elim h [ ]
binder_only s (value.Bracketed ts) h = elim h [ ]
binder_only s (value.Arm b) h = elim h [ ]
binder_only s (value.Ctor c) h = elim h [ ]
binder_only s (value.Decl d) h = elim h [ ]
binder_only s (value.Program p) h = elim h [ ]
binder_only s (value.Tokens n ns) h = elim h [ ]
binder_only s (value.Terms t ts) h = elim h [ ]
binder_only s (value.Binders b bs) h = elim h [ ]
binder_only s (value.Arguments u us) h = elim h [ ]
binder_only s (value.Arms b bs) h = elim h [ ]
binder_only s (value.Ctors c cs) h = elim h [ ]
binder_only s (value.Decls d ds) h = elim h [ ]

pub domain_only : (s : Source) (v : Value) → Fits kind.Domain (sem s v) → (d : Domain) × (v ≡ value.Domain d)
domain_only s (value.Token at) h = elim h [ ]
domain_only s value.Nothing h = elim h [ ]
domain_only s (value.Term t) h = elim h [ ]
domain_only s (value.Binder b) h = elim h [ ]
domain_only s (value.Domain d) h = (d, refl)
domain_only s (value.Argument u) h = elim h [ ]
domain_only s (value.Onto o t) h = elim h [ ]
domain_only s (value.Bracketed ts) h = elim h [ ]
domain_only s (value.Arm b) h = elim h [ ]
domain_only s (value.Ctor c) h = elim h [ ]
domain_only s (value.Decl d) h = elim h [ ]
domain_only s (value.Program p) h = elim h [ ]
domain_only s (value.Tokens n ns) h = elim h [ ]
domain_only s (value.Terms t ts) h = elim h [ ]
domain_only s (value.Binders b bs) h = elim h [ ]
domain_only s (value.Arguments u us) h = elim h [ ]
domain_only s (value.Arms b bs) h = elim h [ ]
domain_only s (value.Ctors c cs) h = elim h [ ]
domain_only s (value.Decls d ds) h = elim h [ ]

pub argument_only : (s : Source) (v : Value) → Fits kind.Argument (sem s v) → (u : Argument) × (v ≡ value.Argument u)
argument_only s (value.Token at) h = elim h [ ]
argument_only s value.Nothing h = elim h [ ]
argument_only s (value.Term t) h = elim h [ ]
argument_only s (value.Binder b) h = elim h [ ]
argument_only s (value.Domain d) h = elim h [ ]
argument_only s (value.Argument u) h = (u, refl)
argument_only s (value.Onto o t) h = elim h [ ]
argument_only s (value.Bracketed ts) h = elim h [ ]
argument_only s (value.Arm b) h = elim h [ ]
argument_only s (value.Ctor c) h = elim h [ ]
argument_only s (value.Decl d) h = elim h [ ]
argument_only s (value.Program p) h = elim h [ ]
argument_only s (value.Tokens n ns) h = elim h [ ]
argument_only s (value.Terms t ts) h = elim h [ ]
argument_only s (value.Binders b bs) h = elim h [ ]
argument_only s (value.Arguments u us) h = elim h [ ]
argument_only s (value.Arms b bs) h = elim h [ ]
argument_only s (value.Ctors c cs) h = elim h [ ]
argument_only s (value.Decls d ds) h = elim h [ ]

pub arm_only : (s : Source) (v : Value) → Fits kind.Arm (sem s v) → (b : Box Branch Global) × (v ≡ value.Arm b)
arm_only s (value.Token at) h = elim h [ ]
arm_only s value.Nothing h = elim h [ ]
arm_only s (value.Term t) h = elim h [ ]
arm_only s (value.Binder b) h = elim h [ ]
arm_only s (value.Domain d) h = elim h [ ]
arm_only s (value.Argument u) h = elim h [ ]
arm_only s (value.Onto o t) h = elim h [ ]
arm_only s (value.Bracketed ts) h = elim h [ ]
arm_only s (value.Arm b) h = (b, refl)
arm_only s (value.Ctor c) h = elim h [ ]
arm_only s (value.Decl d) h = elim h [ ]
arm_only s (value.Program p) h = elim h [ ]
arm_only s (value.Tokens n ns) h = elim h [ ]
arm_only s (value.Terms t ts) h = elim h [ ]
arm_only s (value.Binders b bs) h = elim h [ ]
arm_only s (value.Arguments u us) h = elim h [ ]
arm_only s (value.Arms b bs) h = elim h [ ]
arm_only s (value.Ctors c cs) h = elim h [ ]
arm_only s (value.Decls d ds) h = elim h [ ]

pub ctor_only : (s : Source) (v : Value) → Fits kind.Ctor (sem s v) → (c : Box ctors.CtorTree Global) × (v ≡ value.Ctor c)
ctor_only s (value.Token at) h = elim h [ ]
ctor_only s value.Nothing h = elim h [ ]
ctor_only s (value.Term t) h = elim h [ ]
ctor_only s (value.Binder b) h = elim h [ ]
ctor_only s (value.Domain d) h = elim h [ ]
ctor_only s (value.Argument u) h = elim h [ ]
ctor_only s (value.Onto o t) h = elim h [ ]
ctor_only s (value.Bracketed ts) h = elim h [ ]
ctor_only s (value.Arm b) h = elim h [ ]
ctor_only s (value.Ctor c) h = (c, refl)
ctor_only s (value.Decl d) h = elim h [ ]
ctor_only s (value.Program p) h = elim h [ ]
ctor_only s (value.Tokens n ns) h = elim h [ ]
ctor_only s (value.Terms t ts) h = elim h [ ]
ctor_only s (value.Binders b bs) h = elim h [ ]
ctor_only s (value.Arguments u us) h = elim h [ ]
ctor_only s (value.Arms b bs) h = elim h [ ]
ctor_only s (value.Ctors c cs) h = elim h [ ]
ctor_only s (value.Decls d ds) h = elim h [ ]

pub decl_only : (s : Source) (v : Value) → Fits kind.Decl (sem s v) → (d : Box Decl Global) × (v ≡ value.Decl d)
decl_only s (value.Token at) h = elim h [ ]
decl_only s value.Nothing h = elim h [ ]
decl_only s (value.Term t) h = elim h [ ]
decl_only s (value.Binder b) h = elim h [ ]
decl_only s (value.Domain d) h = elim h [ ]
decl_only s (value.Argument u) h = elim h [ ]
decl_only s (value.Onto o t) h = elim h [ ]
decl_only s (value.Bracketed ts) h = elim h [ ]
decl_only s (value.Arm b) h = elim h [ ]
decl_only s (value.Ctor c) h = elim h [ ]
decl_only s (value.Decl d) h = (d, refl)
decl_only s (value.Program p) h = elim h [ ]
decl_only s (value.Tokens n ns) h = elim h [ ]
decl_only s (value.Terms t ts) h = elim h [ ]
decl_only s (value.Binders b bs) h = elim h [ ]
decl_only s (value.Arguments u us) h = elim h [ ]
decl_only s (value.Arms b bs) h = elim h [ ]
decl_only s (value.Ctors c cs) h = elim h [ ]
decl_only s (value.Decls d ds) h = elim h [ ]

abbrev IsTokenSem : Sem → Type 0
IsTokenSem (meant.token p k x) = Unit {0}
IsTokenSem v = ⊥

token_sem : (j : Kind) (v : Sem) → IsToken j → Fits j v → IsTokenSem v
token_sem _ _ i a_token = tt
token_sem _ _ i a_name = tt
token_sem _ _ i (a_whole q) = tt
token_sem _ _ i (a_natlit q) = tt
token_sem _ _ i (a_word q) = tt
token_sem _ _ i a_term = absurd i
token_sem _ _ i a_binder = absurd i
token_sem _ _ i a_domain = absurd i
token_sem _ _ i an_argument = absurd i
token_sem _ _ i an_onto = absurd i
token_sem _ _ i brackets = absurd i
token_sem _ _ i an_arm = absurd i
token_sem _ _ i a_ctor = absurd i
token_sem _ _ i a_decl = absurd i
token_sem _ _ i a_program = absurd i
token_sem _ _ i none = absurd i
token_sem _ _ i (more h m) = absurd i
token_sem _ _ i left_out = absurd i
token_sem _ _ i (given h) = absurd i

pub token_only : (s : Source) (j : Kind) (v : Value) → IsToken j → Fits j (sem s v) → (at : ℕ) × (v ≡ value.Token at)
token_only s j (value.Token at) i h = (at, refl)
token_only s j value.Nothing i h = absurd (token_sem j _ i h)
token_only s j (value.Term t) i h = absurd (token_sem j _ i h)
token_only s j (value.Binder b) i h = absurd (token_sem j _ i h)
token_only s j (value.Domain d) i h = absurd (token_sem j _ i h)
token_only s j (value.Argument u) i h = absurd (token_sem j _ i h)
token_only s j (value.Onto o t) i h = absurd (token_sem j _ i h)
token_only s j (value.Bracketed ts) i h = absurd (token_sem j _ i h)
token_only s j (value.Arm b) i h = absurd (token_sem j _ i h)
token_only s j (value.Ctor c) i h = absurd (token_sem j _ i h)
token_only s j (value.Decl d) i h = absurd (token_sem j _ i h)
token_only s j (value.Program p) i h = absurd (token_sem j _ i h)
token_only s j (value.Tokens n ns) i h = absurd (token_sem j _ i h)
token_only s j (value.Terms t ts) i h = absurd (token_sem j _ i h)
token_only s j (value.Binders b bs) i h = absurd (token_sem j _ i h)
token_only s j (value.Arguments u us) i h = absurd (token_sem j _ i h)
token_only s j (value.Arms b bs) i h = absurd (token_sem j _ i h)
token_only s j (value.Ctors c cs) i h = absurd (token_sem j _ i h)
token_only s j (value.Decls d ds) i h = absurd (token_sem j _ i h)

-- nothing, or a list of this kind
pub data TokensIs : Value → Type 0 where
  nothing : TokensIs value.Nothing
  some : (n : ℕ) (ns : Vec ℕ Global) → TokensIs (value.Tokens n ns)

pub tokens_only : (s : Source) (v : Value) → Fits (kind.Many kind.Name) (sem s v) → TokensIs v
tokens_only s (value.Token at) h = elim h [ ]
tokens_only s value.Nothing h = TokensIs.nothing
tokens_only s (value.Term t) h = elim h [ ]
tokens_only s (value.Binder b) h = elim h [ ]
tokens_only s (value.Domain d) h = elim h [ ]
tokens_only s (value.Argument u) h = elim h [ ]
tokens_only s (value.Onto o t) h = elim h [ ]
tokens_only s (value.Bracketed ts) h = elim h [ ]
tokens_only s (value.Arm b) h = elim h [ ]
tokens_only s (value.Ctor c) h = elim h [ ]
tokens_only s (value.Decl d) h = elim h [ ]
tokens_only s (value.Program p) h = elim h [ ]
tokens_only s (value.Tokens n ns) h = TokensIs.some n ns
tokens_only s (value.Terms t ts) (more e m) = elim e [ ]
tokens_only s (value.Binders b bs) (more e m) = elim e [ ]
tokens_only s (value.Arguments u us) (more e m) = elim e [ ]
tokens_only s (value.Arms b bs) (more e m) = elim e [ ]
tokens_only s (value.Ctors c cs) (more e m) = elim e [ ]
tokens_only s (value.Decls d ds) (more e m) = elim e [ ]

pub tokens_none : (s : Source) (v : Value) → Fits (kind.Many kind.Name) (sem s v) → ((n : ℕ) (ns : Vec ℕ Global) → v ≡ value.Tokens n ns → ⊥) → sem s v ≡ meant.nothing
tokens_none s v h never = by_cases v (tokens_only s v h) never
  where
    by_cases : (v : Value) → TokensIs v → ((n : ℕ) (ns : Vec ℕ Global) → v ≡ value.Tokens n ns → ⊥) → sem s v ≡ meant.nothing
    by_cases _ TokensIs.nothing never = refl
    by_cases _ (TokensIs.some n ns) never = absurd (never n ns refl)

-- nothing, or a list of this kind
pub data TermsIs : Value → Type 0 where
  nothing : TermsIs value.Nothing
  some : (t : Box Tree Global) (ts : Vec Tree Global) → TermsIs (value.Terms t ts)

pub terms_only : (s : Source) (v : Value) → Fits (kind.Many kind.Term) (sem s v) → TermsIs v
terms_only s (value.Token at) h = elim h [ ]
terms_only s value.Nothing h = TermsIs.nothing
terms_only s (value.Term t) h = elim h [ ]
terms_only s (value.Binder b) h = elim h [ ]
terms_only s (value.Domain d) h = elim h [ ]
terms_only s (value.Argument u) h = elim h [ ]
terms_only s (value.Onto o t) h = elim h [ ]
terms_only s (value.Bracketed ts) h = elim h [ ]
terms_only s (value.Arm b) h = elim h [ ]
terms_only s (value.Ctor c) h = elim h [ ]
terms_only s (value.Decl d) h = elim h [ ]
terms_only s (value.Program p) h = elim h [ ]
terms_only s (value.Tokens n ns) (more e m) = elim e [ ]
terms_only s (value.Terms t ts) h = TermsIs.some t ts
terms_only s (value.Binders b bs) (more e m) = elim e [ ]
terms_only s (value.Arguments u us) (more e m) = elim e [ ]
terms_only s (value.Arms b bs) (more e m) = elim e [ ]
terms_only s (value.Ctors c cs) (more e m) = elim e [ ]
terms_only s (value.Decls d ds) (more e m) = elim e [ ]

pub terms_none : (s : Source) (v : Value) → Fits (kind.Many kind.Term) (sem s v) → ((t : Box Tree Global) (ts : Vec Tree Global) → v ≡ value.Terms t ts → ⊥) → sem s v ≡ meant.nothing
terms_none s v h never = by_cases v (terms_only s v h) never
  where
    by_cases : (v : Value) → TermsIs v → ((t : Box Tree Global) (ts : Vec Tree Global) → v ≡ value.Terms t ts → ⊥) → sem s v ≡ meant.nothing
    by_cases _ TermsIs.nothing never = refl
    by_cases _ (TermsIs.some t ts) never = absurd (never t ts refl)

-- nothing, or a list of this kind
pub data BindersIs : Value → Type 0 where
  nothing : BindersIs value.Nothing
  some : (b : Option Text) (bs : Vec (Option Text) Global) → BindersIs (value.Binders b bs)

pub binders_only : (s : Source) (v : Value) → Fits (kind.Many kind.Binder) (sem s v) → BindersIs v
binders_only s (value.Token at) h = elim h [ ]
binders_only s value.Nothing h = BindersIs.nothing
binders_only s (value.Term t) h = elim h [ ]
binders_only s (value.Binder b) h = elim h [ ]
binders_only s (value.Domain d) h = elim h [ ]
binders_only s (value.Argument u) h = elim h [ ]
binders_only s (value.Onto o t) h = elim h [ ]
binders_only s (value.Bracketed ts) h = elim h [ ]
binders_only s (value.Arm b) h = elim h [ ]
binders_only s (value.Ctor c) h = elim h [ ]
binders_only s (value.Decl d) h = elim h [ ]
binders_only s (value.Program p) h = elim h [ ]
binders_only s (value.Tokens n ns) (more e m) = elim e [ ]
binders_only s (value.Terms t ts) (more e m) = elim e [ ]
binders_only s (value.Binders b bs) h = BindersIs.some b bs
binders_only s (value.Arguments u us) (more e m) = elim e [ ]
binders_only s (value.Arms b bs) (more e m) = elim e [ ]
binders_only s (value.Ctors c cs) (more e m) = elim e [ ]
binders_only s (value.Decls d ds) (more e m) = elim e [ ]

pub binders_none : (s : Source) (v : Value) → Fits (kind.Many kind.Binder) (sem s v) → ((b : Option Text) (bs : Vec (Option Text) Global) → v ≡ value.Binders b bs → ⊥) → sem s v ≡ meant.nothing
binders_none s v h never = by_cases v (binders_only s v h) never
  where
    by_cases : (v : Value) → BindersIs v → ((b : Option Text) (bs : Vec (Option Text) Global) → v ≡ value.Binders b bs → ⊥) → sem s v ≡ meant.nothing
    by_cases _ BindersIs.nothing never = refl
    by_cases _ (BindersIs.some b bs) never = absurd (never b bs refl)

-- nothing, or a list of this kind
pub data ArgumentsIs : Value → Type 0 where
  nothing : ArgumentsIs value.Nothing
  some : (u : Argument) (us : Vec Argument Global) → ArgumentsIs (value.Arguments u us)

pub arguments_only : (s : Source) (v : Value) → Fits (kind.Many kind.Argument) (sem s v) → ArgumentsIs v
arguments_only s (value.Token at) h = elim h [ ]
arguments_only s value.Nothing h = ArgumentsIs.nothing
arguments_only s (value.Term t) h = elim h [ ]
arguments_only s (value.Binder b) h = elim h [ ]
arguments_only s (value.Domain d) h = elim h [ ]
arguments_only s (value.Argument u) h = elim h [ ]
arguments_only s (value.Onto o t) h = elim h [ ]
arguments_only s (value.Bracketed ts) h = elim h [ ]
arguments_only s (value.Arm b) h = elim h [ ]
arguments_only s (value.Ctor c) h = elim h [ ]
arguments_only s (value.Decl d) h = elim h [ ]
arguments_only s (value.Program p) h = elim h [ ]
arguments_only s (value.Tokens n ns) (more e m) = elim e [ ]
arguments_only s (value.Terms t ts) (more e m) = elim e [ ]
arguments_only s (value.Binders b bs) (more e m) = elim e [ ]
arguments_only s (value.Arguments u us) h = ArgumentsIs.some u us
arguments_only s (value.Arms b bs) (more e m) = elim e [ ]
arguments_only s (value.Ctors c cs) (more e m) = elim e [ ]
arguments_only s (value.Decls d ds) (more e m) = elim e [ ]

pub arguments_none : (s : Source) (v : Value) → Fits (kind.Many kind.Argument) (sem s v) → ((u : Argument) (us : Vec Argument Global) → v ≡ value.Arguments u us → ⊥) → sem s v ≡ meant.nothing
arguments_none s v h never = by_cases v (arguments_only s v h) never
  where
    by_cases : (v : Value) → ArgumentsIs v → ((u : Argument) (us : Vec Argument Global) → v ≡ value.Arguments u us → ⊥) → sem s v ≡ meant.nothing
    by_cases _ ArgumentsIs.nothing never = refl
    by_cases _ (ArgumentsIs.some u us) never = absurd (never u us refl)

-- nothing, or a list of this kind
pub data ArmsIs : Value → Type 0 where
  nothing : ArmsIs value.Nothing
  some : (b : Box Branch Global) (bs : Vec Branch Global) → ArmsIs (value.Arms b bs)

pub arms_only : (s : Source) (v : Value) → Fits (kind.Many kind.Arm) (sem s v) → ArmsIs v
arms_only s (value.Token at) h = elim h [ ]
arms_only s value.Nothing h = ArmsIs.nothing
arms_only s (value.Term t) h = elim h [ ]
arms_only s (value.Binder b) h = elim h [ ]
arms_only s (value.Domain d) h = elim h [ ]
arms_only s (value.Argument u) h = elim h [ ]
arms_only s (value.Onto o t) h = elim h [ ]
arms_only s (value.Bracketed ts) h = elim h [ ]
arms_only s (value.Arm b) h = elim h [ ]
arms_only s (value.Ctor c) h = elim h [ ]
arms_only s (value.Decl d) h = elim h [ ]
arms_only s (value.Program p) h = elim h [ ]
arms_only s (value.Tokens n ns) (more e m) = elim e [ ]
arms_only s (value.Terms t ts) (more e m) = elim e [ ]
arms_only s (value.Binders b bs) (more e m) = elim e [ ]
arms_only s (value.Arguments u us) (more e m) = elim e [ ]
arms_only s (value.Arms b bs) h = ArmsIs.some b bs
arms_only s (value.Ctors c cs) (more e m) = elim e [ ]
arms_only s (value.Decls d ds) (more e m) = elim e [ ]

pub arms_none : (s : Source) (v : Value) → Fits (kind.Many kind.Arm) (sem s v) → ((b : Box Branch Global) (bs : Vec Branch Global) → v ≡ value.Arms b bs → ⊥) → sem s v ≡ meant.nothing
arms_none s v h never = by_cases v (arms_only s v h) never
  where
    by_cases : (v : Value) → ArmsIs v → ((b : Box Branch Global) (bs : Vec Branch Global) → v ≡ value.Arms b bs → ⊥) → sem s v ≡ meant.nothing
    by_cases _ ArmsIs.nothing never = refl
    by_cases _ (ArmsIs.some b bs) never = absurd (never b bs refl)

-- nothing, or a list of this kind
pub data CtorsIs : Value → Type 0 where
  nothing : CtorsIs value.Nothing
  some : (c : Box ctors.CtorTree Global) (cs : Vec (ctors.CtorTree) Global) → CtorsIs (value.Ctors c cs)

pub ctors_only : (s : Source) (v : Value) → Fits (kind.Many kind.Ctor) (sem s v) → CtorsIs v
ctors_only s (value.Token at) h = elim h [ ]
ctors_only s value.Nothing h = CtorsIs.nothing
ctors_only s (value.Term t) h = elim h [ ]
ctors_only s (value.Binder b) h = elim h [ ]
ctors_only s (value.Domain d) h = elim h [ ]
ctors_only s (value.Argument u) h = elim h [ ]
ctors_only s (value.Onto o t) h = elim h [ ]
ctors_only s (value.Bracketed ts) h = elim h [ ]
ctors_only s (value.Arm b) h = elim h [ ]
ctors_only s (value.Ctor c) h = elim h [ ]
ctors_only s (value.Decl d) h = elim h [ ]
ctors_only s (value.Program p) h = elim h [ ]
ctors_only s (value.Tokens n ns) (more e m) = elim e [ ]
ctors_only s (value.Terms t ts) (more e m) = elim e [ ]
ctors_only s (value.Binders b bs) (more e m) = elim e [ ]
ctors_only s (value.Arguments u us) (more e m) = elim e [ ]
ctors_only s (value.Arms b bs) (more e m) = elim e [ ]
ctors_only s (value.Ctors c cs) h = CtorsIs.some c cs
ctors_only s (value.Decls d ds) (more e m) = elim e [ ]

pub ctors_none : (s : Source) (v : Value) → Fits (kind.Many kind.Ctor) (sem s v) → ((c : Box ctors.CtorTree Global) (cs : Vec (ctors.CtorTree) Global) → v ≡ value.Ctors c cs → ⊥) → sem s v ≡ meant.nothing
ctors_none s v h never = by_cases v (ctors_only s v h) never
  where
    by_cases : (v : Value) → CtorsIs v → ((c : Box ctors.CtorTree Global) (cs : Vec (ctors.CtorTree) Global) → v ≡ value.Ctors c cs → ⊥) → sem s v ≡ meant.nothing
    by_cases _ CtorsIs.nothing never = refl
    by_cases _ (CtorsIs.some c cs) never = absurd (never c cs refl)

-- nothing, or a list of this kind
pub data DeclsIs : Value → Type 0 where
  nothing : DeclsIs value.Nothing
  some : (d : Box Decl Global) (ds : Vec Decl Global) → DeclsIs (value.Decls d ds)

pub decls_only : (s : Source) (v : Value) → Fits (kind.Many kind.Decl) (sem s v) → DeclsIs v
decls_only s (value.Token at) h = elim h [ ]
decls_only s value.Nothing h = DeclsIs.nothing
decls_only s (value.Term t) h = elim h [ ]
decls_only s (value.Binder b) h = elim h [ ]
decls_only s (value.Domain d) h = elim h [ ]
decls_only s (value.Argument u) h = elim h [ ]
decls_only s (value.Onto o t) h = elim h [ ]
decls_only s (value.Bracketed ts) h = elim h [ ]
decls_only s (value.Arm b) h = elim h [ ]
decls_only s (value.Ctor c) h = elim h [ ]
decls_only s (value.Decl d) h = elim h [ ]
decls_only s (value.Program p) h = elim h [ ]
decls_only s (value.Tokens n ns) (more e m) = elim e [ ]
decls_only s (value.Terms t ts) (more e m) = elim e [ ]
decls_only s (value.Binders b bs) (more e m) = elim e [ ]
decls_only s (value.Arguments u us) (more e m) = elim e [ ]
decls_only s (value.Arms b bs) (more e m) = elim e [ ]
decls_only s (value.Ctors c cs) (more e m) = elim e [ ]
decls_only s (value.Decls d ds) h = DeclsIs.some d ds

pub decls_none : (s : Source) (v : Value) → Fits (kind.Many kind.Decl) (sem s v) → ((d : Box Decl Global) (ds : Vec Decl Global) → v ≡ value.Decls d ds → ⊥) → sem s v ≡ meant.nothing
decls_none s v h never = by_cases v (decls_only s v h) never
  where
    by_cases : (v : Value) → DeclsIs v → ((d : Box Decl Global) (ds : Vec Decl Global) → v ≡ value.Decls d ds → ⊥) → sem s v ≡ meant.nothing
    by_cases _ DeclsIs.nothing never = refl
    by_cases _ (DeclsIs.some d ds) never = absurd (never d ds refl)

-- nothing, or a value of this kind
pub data TermOrNot : Value → Type 0 where
  nothing : TermOrNot value.Nothing
  some : (t : Box Tree Global) → TermOrNot (value.Term t)

pub term_or_not : (s : Source) (v : Value) → Fits (kind.Maybe kind.Term) (sem s v) → TermOrNot v
term_or_not s (value.Token at) (given e) = elim e [ ]
term_or_not s value.Nothing h = TermOrNot.nothing
term_or_not s (value.Term t) h = TermOrNot.some t
term_or_not s (value.Binder b) (given e) = elim e [ ]
term_or_not s (value.Domain d) (given e) = elim e [ ]
term_or_not s (value.Argument u) (given e) = elim e [ ]
term_or_not s (value.Onto o t) (given e) = elim e [ ]
term_or_not s (value.Bracketed ts) (given e) = elim e [ ]
term_or_not s (value.Arm b) (given e) = elim e [ ]
term_or_not s (value.Ctor c) (given e) = elim e [ ]
term_or_not s (value.Decl d) (given e) = elim e [ ]
term_or_not s (value.Program p) (given e) = elim e [ ]
term_or_not s (value.Tokens n ns) (given e) = elim e [ ]
term_or_not s (value.Terms t ts) (given e) = elim e [ ]
term_or_not s (value.Binders b bs) (given e) = elim e [ ]
term_or_not s (value.Arguments u us) (given e) = elim e [ ]
term_or_not s (value.Arms b bs) (given e) = elim e [ ]
term_or_not s (value.Ctors c cs) (given e) = elim e [ ]
term_or_not s (value.Decls d ds) (given e) = elim e [ ]

pub term_or_not_none : (s : Source) (v : Value) → Fits (kind.Maybe kind.Term) (sem s v) → ((t : Box Tree Global) → v ≡ value.Term t → ⊥) → sem s v ≡ meant.nothing
term_or_not_none s v h never = by_cases v (term_or_not s v h) never
  where
    by_cases : (v : Value) → TermOrNot v → ((t : Box Tree Global) → v ≡ value.Term t → ⊥) → sem s v ≡ meant.nothing
    by_cases _ TermOrNot.nothing never = refl
    by_cases _ (TermOrNot.some t) never = absurd (never t refl)

-- nothing, or a value of this kind
pub data OntoOrNot : Value → Type 0 where
  nothing : OntoOrNot value.Nothing
  some : (o : Bool) (t : Box Tree Global) → OntoOrNot (value.Onto o t)

pub onto_or_not : (s : Source) (v : Value) → Fits (kind.Maybe kind.Onto) (sem s v) → OntoOrNot v
onto_or_not s (value.Token at) (given e) = elim e [ ]
onto_or_not s value.Nothing h = OntoOrNot.nothing
onto_or_not s (value.Term t) (given e) = elim e [ ]
onto_or_not s (value.Binder b) (given e) = elim e [ ]
onto_or_not s (value.Domain d) (given e) = elim e [ ]
onto_or_not s (value.Argument u) (given e) = elim e [ ]
onto_or_not s (value.Onto o t) h = OntoOrNot.some o t
onto_or_not s (value.Bracketed ts) (given e) = elim e [ ]
onto_or_not s (value.Arm b) (given e) = elim e [ ]
onto_or_not s (value.Ctor c) (given e) = elim e [ ]
onto_or_not s (value.Decl d) (given e) = elim e [ ]
onto_or_not s (value.Program p) (given e) = elim e [ ]
onto_or_not s (value.Tokens n ns) (given e) = elim e [ ]
onto_or_not s (value.Terms t ts) (given e) = elim e [ ]
onto_or_not s (value.Binders b bs) (given e) = elim e [ ]
onto_or_not s (value.Arguments u us) (given e) = elim e [ ]
onto_or_not s (value.Arms b bs) (given e) = elim e [ ]
onto_or_not s (value.Ctors c cs) (given e) = elim e [ ]
onto_or_not s (value.Decls d ds) (given e) = elim e [ ]

pub onto_or_not_none : (s : Source) (v : Value) → Fits (kind.Maybe kind.Onto) (sem s v) → ((o : Bool) (t : Box Tree Global) → v ≡ value.Onto o t → ⊥) → sem s v ≡ meant.nothing
onto_or_not_none s v h never = by_cases v (onto_or_not s v h) never
  where
    by_cases : (v : Value) → OntoOrNot v → ((o : Bool) (t : Box Tree Global) → v ≡ value.Onto o t → ⊥) → sem s v ≡ meant.nothing
    by_cases _ OntoOrNot.nothing never = refl
    by_cases _ (OntoOrNot.some o t) never = absurd (never o t refl)

-- nothing, or a value of this kind
pub data BracketsOrNot : Value → Type 0 where
  nothing : BracketsOrNot value.Nothing
  some : (ts : Vec Tree Global) → BracketsOrNot (value.Bracketed ts)

pub bracketed_or_not : (s : Source) (v : Value) → Fits (kind.Maybe kind.Bracketed) (sem s v) → BracketsOrNot v
bracketed_or_not s (value.Token at) (given e) = elim e [ ]
bracketed_or_not s value.Nothing h = BracketsOrNot.nothing
bracketed_or_not s (value.Term t) (given e) = elim e [ ]
bracketed_or_not s (value.Binder b) (given e) = elim e [ ]
bracketed_or_not s (value.Domain d) (given e) = elim e [ ]
bracketed_or_not s (value.Argument u) (given e) = elim e [ ]
bracketed_or_not s (value.Onto o t) (given e) = elim e [ ]
bracketed_or_not s (value.Bracketed ts) h = BracketsOrNot.some ts
bracketed_or_not s (value.Arm b) (given e) = elim e [ ]
bracketed_or_not s (value.Ctor c) (given e) = elim e [ ]
bracketed_or_not s (value.Decl d) (given e) = elim e [ ]
bracketed_or_not s (value.Program p) (given e) = elim e [ ]
bracketed_or_not s (value.Tokens n ns) (given e) = elim e [ ]
bracketed_or_not s (value.Terms t ts) (given e) = elim e [ ]
bracketed_or_not s (value.Binders b bs) (given e) = elim e [ ]
bracketed_or_not s (value.Arguments u us) (given e) = elim e [ ]
bracketed_or_not s (value.Arms b bs) (given e) = elim e [ ]
bracketed_or_not s (value.Ctors c cs) (given e) = elim e [ ]
bracketed_or_not s (value.Decls d ds) (given e) = elim e [ ]

pub bracketed_or_not_none : (s : Source) (v : Value) → Fits (kind.Maybe kind.Bracketed) (sem s v) → ((ts : Vec Tree Global) → v ≡ value.Bracketed ts → ⊥) → sem s v ≡ meant.nothing
bracketed_or_not_none s v h never = by_cases v (bracketed_or_not s v h) never
  where
    by_cases : (v : Value) → BracketsOrNot v → ((ts : Vec Tree Global) → v ≡ value.Bracketed ts → ⊥) → sem s v ≡ meant.nothing
    by_cases _ BracketsOrNot.nothing never = refl
    by_cases _ (BracketsOrNot.some ts) never = absurd (never ts refl)

-- nothing, or a value of this kind
pub data ProgramOrNot : Value → Type 0 where
  nothing : ProgramOrNot value.Nothing
  some : (p : Program) → ProgramOrNot (value.Program p)

pub program_or_not : (s : Source) (v : Value) → Fits (kind.Maybe kind.Program) (sem s v) → ProgramOrNot v
program_or_not s (value.Token at) (given e) = elim e [ ]
program_or_not s value.Nothing h = ProgramOrNot.nothing
program_or_not s (value.Term t) (given e) = elim e [ ]
program_or_not s (value.Binder b) (given e) = elim e [ ]
program_or_not s (value.Domain d) (given e) = elim e [ ]
program_or_not s (value.Argument u) (given e) = elim e [ ]
program_or_not s (value.Onto o t) (given e) = elim e [ ]
program_or_not s (value.Bracketed ts) (given e) = elim e [ ]
program_or_not s (value.Arm b) (given e) = elim e [ ]
program_or_not s (value.Ctor c) (given e) = elim e [ ]
program_or_not s (value.Decl d) (given e) = elim e [ ]
program_or_not s (value.Program p) h = ProgramOrNot.some p
program_or_not s (value.Tokens n ns) (given e) = elim e [ ]
program_or_not s (value.Terms t ts) (given e) = elim e [ ]
program_or_not s (value.Binders b bs) (given e) = elim e [ ]
program_or_not s (value.Arguments u us) (given e) = elim e [ ]
program_or_not s (value.Arms b bs) (given e) = elim e [ ]
program_or_not s (value.Ctors c cs) (given e) = elim e [ ]
program_or_not s (value.Decls d ds) (given e) = elim e [ ]

pub program_or_not_none : (s : Source) (v : Value) → Fits (kind.Maybe kind.Program) (sem s v) → ((p : Program) → v ≡ value.Program p → ⊥) → sem s v ≡ meant.nothing
program_or_not_none s v h never = by_cases v (program_or_not s v h) never
  where
    by_cases : (v : Value) → ProgramOrNot v → ((p : Program) → v ≡ value.Program p → ⊥) → sem s v ≡ meant.nothing
    by_cases _ ProgramOrNot.nothing never = refl
    by_cases _ (ProgramOrNot.some p) never = absurd (never p refl)
