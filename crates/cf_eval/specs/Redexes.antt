-- Steps on values: what a form with evaluated parts goes on to, without putting anything in.
use Rattle.std.specs.Prelude.{ℕ, zero, suc, ◌+◌, Bool, true, false, Option, Some, None}
use Rattle.cf_term.specs.Core.{Tm, Head, AppH, LamH, LetH, PairH, FstH, SndH, UnitH, UnitRecH, TrueH, FalseH, BoolRecH, ZeroH, SucH, NatRecH, NilH, ConsH, ListRecH, QuoteH, SpliceH}
use Rattle.cf_term.specs.Forms.{App, NatRec, ListRec}
use Rattle.cf_term.specs.Same.{bare}
use Rattle.cf_term.specs.Substitution.{substitute, up, instance}
use Rattle.cf_value.specs.Val.{Val, VParts, Vals, form, none, ready, frozen, values_in}
use Rattle.cf_value.specs.Stands.{term_at, env_at}
use Rattle.cf_term.specs.Closed.{IsClosed}
use Rattle.cf_value.specs.Contexts.{IsKnown, AreKnown}
use denote.Ref.{Bor}
use Rattle.std.specs.declared.rc.Rc.{Rc}
use Rattle.cf_value.specs.declared.values.Value.{Value}
use Rattle.cf_value.specs.declared.values.Frozen.{Frozen}

-- a frozen term with the values of its variables
pub record Kept : Type 0 where
  pub env : Vals
  pub body : Tm

-- what is evaluated after a step
pub data Goal : Type 0 where
  -- a body with the value of its variable
  opened : Kept → Val → Goal
  -- a value, which it is already
  value : Val → Goal
  -- a kept part
  case_of : Kept → Goal
  -- s m (natrec P z s m)
  number_case : (p z s : Kept) → Val → Goal
  -- c x y (listrec P n c y)
  list_case : (p n c : Kept) → (x y : Val) → Goal

-- goes on with what there is
abbrev pub bind : {A B : Type 0} → Option A → (A → Option B) → Option B
bind None f = None
bind (Some a) f = f a

-- ---- parts

-- the part with number i, where it was evaluated
abbrev pub ready_part : VParts → ℕ → Option Val
ready_part none i = None
ready_part (ready v ps) zero = Some v
ready_part (frozen e t ps) zero = None
ready_part (ready v ps) (suc i) = ready_part ps i
ready_part (frozen e t ps) (suc i) = ready_part ps i

-- the part with number i, where it was kept
abbrev pub kept_part : VParts → ℕ → Option Kept
kept_part none i = None
kept_part (ready v ps) zero = None
kept_part (frozen e t ps) zero = Some (record { env = e; body = t })
kept_part (ready v ps) (suc i) = kept_part ps i
kept_part (frozen e t ps) (suc i) = kept_part ps i

-- ---- constructors

-- the body of a lambda
abbrev pub lambda_of : Val → Option Kept
lambda_of (form (LamH i) l ps) = kept_part ps 1
lambda_of _ = None

-- the components of a pair
abbrev pub first_value : Val → Option Val
first_value (form PairH l ps) = ready_part ps 1
first_value _ = None

abbrev pub second_value : Val → Option Val
second_value (form PairH l ps) = ready_part ps 2
second_value _ = None

-- whether it is `unit`
abbrev pub unit_of : Val → Bool
unit_of (form UnitH l ps) = true
unit_of _ = false

-- which of `true` and `false` it is
abbrev pub bool_of : Val → Option Bool
bool_of (form TrueH l ps) = Some true
bool_of (form FalseH l ps) = Some false
bool_of _ = None

-- whether it is `zero`
abbrev pub zero_of : Val → Bool
zero_of (form ZeroH l ps) = true
zero_of _ = false

-- the number before
abbrev pub suc_of : Val → Option Val
suc_of (form SucH l ps) = ready_part ps 0
suc_of _ = None

-- whether it is a `nil`
abbrev pub nil_of : Val → Bool
nil_of (form NilH l ps) = true
nil_of _ = false

-- the first item of a list, and the list of the others
abbrev pub head_item : Val → Option Val
head_item (form ConsH l ps) = ready_part ps 0
head_item _ = None

abbrev pub other_items : Val → Option Val
other_items (form ConsH l ps) = ready_part ps 1
other_items _ = None

-- what a quote or a splice has inside
abbrev pub quoted_value : Val → Option Val
quoted_value (form QuoteH l ps) = ready_part ps 0
quoted_value _ = None

abbrev pub spliced_value : Val → Option Val
spliced_value (form SpliceH l ps) = ready_part ps 0
spliced_value _ = None

-- ---- steps

-- the kept part with number i
abbrev pub case_at : VParts → ℕ → Option Goal
case_at ps i = bind (kept_part ps i) (λ t. Some (case_of t))

-- the recursive case for the number after m
abbrev pub after_number : VParts → Val → Option Goal
after_number ps m = bind (kept_part ps 0) (λ p. bind (kept_part ps 1) (λ z. bind (kept_part ps 2) (λ s. Some (number_case p z s m))))

-- the recursive case for the list of x and y
abbrev pub after_list : VParts → (x y : Val) → Option Goal
after_list ps x y = bind (kept_part ps 0) (λ p. bind (kept_part ps 1) (λ n. bind (kept_part ps 2) (λ c. Some (list_case p n c x y))))

abbrev pub opened_with : Option Kept → Val → Option Goal
opened_with f u = bind f (λ b. Some (opened b u))

abbrev pub unit_step : VParts → Val → Option Goal
unit_step ps n = elim (unit_of n) [ true ↦ case_at ps 1 | false ↦ None ]

abbrev pub bool_step : VParts → Option Bool → Option Goal
bool_step ps None = None
bool_step ps (Some true) = case_at ps 1
bool_step ps (Some false) = case_at ps 2

abbrev pub nat_step : VParts → Val → Option Goal
nat_step ps n = elim (zero_of n) [ true ↦ case_at ps 1 | false ↦ bind (suc_of n) (after_number ps) ]

abbrev pub list_step : VParts → Val → Option Goal
list_step ps l = elim (nil_of l) [ true ↦ case_at ps 1 | false ↦ bind (head_item l) (λ x. bind (other_items l) (after_list ps x)) ]

abbrev pub value_at : Option Val → Option Goal
value_at v = bind v (λ u. Some (value u))

-- what a form with these parts goes on to by one step
abbrev pub redex : Head → VParts → Option Goal
redex (AppH i) ps = bind (ready_part ps 0) (λ f. bind (ready_part ps 1) (opened_with (lambda_of f)))
redex LetH ps = bind (ready_part ps 1) (opened_with (kept_part ps 2))
redex FstH ps = bind (ready_part ps 0) (λ p. value_at (first_value p))
redex SndH ps = bind (ready_part ps 0) (λ p. value_at (second_value p))
redex UnitRecH ps = bind (ready_part ps 2) (unit_step ps)
redex BoolRecH ps = bind (ready_part ps 3) (λ n. bool_step ps (bool_of n))
redex NatRecH ps = bind (ready_part ps 3) (nat_step ps)
redex ListRecH ps = bind (ready_part ps 3) (list_step ps)
redex SpliceH ps = bind (ready_part ps 0) (λ t. value_at (quoted_value t))
redex _ ps = None

-- ---- what they stand for

abbrev pub kept_at : (at : ℕ → ℕ) → Kept → Tm
kept_at at f = substitute (env_at at f.env) (bare f.body)

-- a body, under its variable
abbrev pub body_at : (at : ℕ → ℕ) → Kept → Tm
body_at at f = substitute (up (env_at at f.env)) (bare f.body)

abbrev pub goal_at : (at : ℕ → ℕ) → Goal → Tm
goal_at at (opened f u) = instance (body_at at f) (term_at at u)
goal_at at (value v) = term_at at v
goal_at at (case_of t) = kept_at at t
goal_at at (number_case p z s m) = App false (App false (kept_at at s) (term_at at m)) (NatRec (kept_at at p) (kept_at at z) (kept_at at s) (term_at at m))
goal_at at (list_case p n c x y) =
    App false (App false (App false (kept_at at c) (term_at at x)) (term_at at y)) (ListRec (kept_at at p) (kept_at at n) (kept_at at c) (term_at at y))

-- a frozen term under b variables of its form, of a context
abbrev pub IsKnownKept : (known : ℕ → Type 0) → (b : ℕ) → Kept → Type 0
IsKnownKept known b f = IsClosed (values_in f.env + b) f.body × AreKnown known f.env

abbrev pub IsKnownGoal : (known : ℕ → Type 0) → Goal → Type 0
IsKnownGoal known (opened f u) = IsKnownKept known 1 f × IsKnown known u
IsKnownGoal known (value v) = IsKnown known v
IsKnownGoal known (case_of t) = IsKnownKept known 0 t
IsKnownGoal known (number_case p z s m) = IsKnownKept known 0 p × IsKnownKept known 0 z × IsKnownKept known 0 s × IsKnown known m
IsKnownGoal known (list_case p n c x y) = IsKnownKept known 0 p × IsKnownKept known 0 n × IsKnownKept known 0 c × IsKnown known x × IsKnown known y

-- ---- what the code answers

abbrev pub seen_value : {Z : Type 0} → Option (Bor (Rc Value Z)) → Option Val
seen_value None = None
seen_value (Some r) = Some r.now.value

abbrev pub kept_of : Frozen → Kept
kept_of f = record { env = f.env; body = f.body.value }

abbrev pub seen_kept : Option (Bor Frozen) → Option Kept
seen_kept None = None
seen_kept (Some f) = Some (kept_of f.now)

-- what is inside the splice that a quote holds
abbrev pub unquoted : Head → VParts → Option Val
unquoted QuoteH ps = bind (ready_part ps 0) spliced_value
unquoted _ ps = None
