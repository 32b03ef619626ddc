-- Small programs and how they end, by computation.
use Rattle.std.proofs.Common.{◌≡◌, refl, ℕ, List, [], ◌∷◌}
use Rattle.std.specs.Prelude.{pos, negsuc, Bool, true, false}
use Rattle.cf_base.specs.declared.outcome.Outcome.TheVariants.{Returned, DivideByZero, HeapFull, Overflow}
use Rattle.cf_object.specs.Obj.{WholeT, NoTypes, Value, Arrow, Obj, Var, Lit, Prim, Add, Sub, Lt, Eq, Div, Rem, LetV, LetRec, OLam, OApp, Con, NoObjs, AndObj, Case, Fail, AndDef, NoDefs, AndBranch, NoBranches}
use Rattle.cf_object.specs.Machine.{After, Ended, Running, Stuck}
use Rattle.cf_object.specs.Program.{ObjDecl, program_run}

-- `main : Int := t;`
main_is : Obj → List ObjDecl
main_is t = record { type = Value WholeT; body = t } ∷ []

-- `main : Int => Int := fn (n : Int). t;`
main_of : Obj → List ObjDecl
main_of t = record { type = Arrow WholeT (Value WholeT); body = OLam WholeT t } ∷ []

is_running : {region : ℕ} → After region → Bool
is_running (Ended o calls peak) = false
is_running (Running s peak) = true
is_running Stuck = false

-- a number takes three steps: the `let` of main, its value, and the end
three_steps : program_run (main_is (Lit (pos 7))) [] 0 3 ≡ Ended (Returned (pos 7)) 0 0
unfolding main_is
three_steps = refl

two_steps : is_running (program_run (main_is (Lit (pos 7))) [] 0 2) ≡ true
unfolding main_is is_running
two_steps = refl

-- letrec loop i acc := case lt i 1 of { no . loop (i - 1) (acc + i) | yes . acc }; loop n 0
sum_by_loop : Obj
sum_by_loop =
    LetRec (AndDef (Arrow WholeT (Arrow WholeT (Value WholeT))) (OLam WholeT (OLam WholeT (Case (Prim Lt (Var 1) (Lit (pos 1))) (Value WholeT)
    (AndBranch 0 0 0 (OApp (OApp (Var 2) (Prim Sub (Var 1) (Lit (pos 1)))) (Prim Add (Var 0) (Var 1)))
    (AndBranch 0 1 0 (Var 0) NoBranches))))) NoDefs)
    (OApp (OApp (Var 0) (Var 1)) (Lit (pos 0)))

-- jumps are no calls
loop_makes_no_call : program_run (main_of sum_by_loop) (pos 3 ∷ []) 0 100 ≡ Ended (Returned (pos 6)) 0 0
unfolding main_of sum_by_loop
loop_makes_no_call = refl

-- letrec go k := case lt k 1 of { no . k + go (k - 1) | yes . 0 }; go n
sum_by_calls : Obj
sum_by_calls =
    LetRec (AndDef (Arrow WholeT (Value WholeT)) (OLam WholeT (Case (Prim Lt (Var 0) (Lit (pos 1))) (Value WholeT)
    (AndBranch 0 0 0 (Prim Add (Var 0) (OApp (Var 1) (Prim Sub (Var 0) (Lit (pos 1)))))
    (AndBranch 0 1 0 (Lit (pos 0)) NoBranches)))) NoDefs)
    (OApp (Var 0) (Var 1))

-- a call is made for each number from 3 down to 0, and all are open at the last
calls_are_counted : program_run (main_of sum_by_calls) (pos 3 ∷ []) 0 100 ≡ Ended (Returned (pos 6)) 4 4
unfolding main_of sum_by_calls
calls_are_counted = refl

-- case 1 == 1 of { no . fn x. x | yes . fail } @ div 1 0
failing_twice : Obj
failing_twice =
    OApp (Case (Prim Eq (Lit (pos 1)) (Lit (pos 1))) (Arrow WholeT (Value WholeT))
    (AndBranch 0 0 0 (OLam WholeT (Var 0)) (AndBranch 0 1 0 (Fail (Arrow WholeT (Value WholeT))) NoBranches)))
    (Prim Div (Lit (pos 1)) (Lit (pos 0)))

-- an argument is evaluated before what it is applied to
argument_first : program_run (main_is failing_twice) [] 0 10 ≡ Ended DivideByZero 0 0
unfolding main_is failing_twice
argument_first = refl

-- a constructor with one field takes 16 bytes
one_cell : Obj
one_cell = Case (Con 1 0 NoTypes (AndObj (Lit (pos 5)) NoObjs)) (Value WholeT) (AndBranch 1 0 1 (Var 0) NoBranches)

cell_fits : program_run (main_is one_cell) [] 16 10 ≡ Ended (Returned (pos 5)) 0 0
unfolding main_is one_cell
cell_fits = refl

cell_does_not_fit : program_run (main_is one_cell) [] 15 10 ≡ Ended HeapFull 0 0
unfolding main_is one_cell
cell_does_not_fit = refl

-- the last name of a branch has index 0: 5 - 7 over the fields 5 and 7
difference_of_fields : Obj
difference_of_fields = Case (Con 1 0 NoTypes (AndObj (Lit (pos 5)) (AndObj (Lit (pos 7)) NoObjs))) (Value WholeT) (AndBranch 1 0 2 (Prim Sub (Var 1) (Var 0)) NoBranches)

fields_keep_their_order : program_run (main_is difference_of_fields) [] 24 50 ≡ Ended (Returned (negsuc 1)) 0 0
unfolding main_is difference_of_fields
fields_keep_their_order = refl

-- the least number has no quotient by -1, but a remainder
least_by_minus_one : program_run (main_is (Prim Div (Lit (negsuc 9223372036854775807)) (Lit (negsuc 0)))) [] 0 10 ≡ Ended Overflow 0 0
unfolding main_is
least_by_minus_one = refl

rest_of_least : program_run (main_is (Prim Rem (Lit (negsuc 9223372036854775807)) (Lit (negsuc 0)))) [] 0 10 ≡ Ended (Returned (pos 0)) 0 0
unfolding main_is
rest_of_least = refl

-- division rounds toward zero, and a remainder has the sign of what is divided
rest_of_minus_seven : program_run (main_is (Prim Rem (Lit (negsuc 6)) (Lit (pos 2)))) [] 0 10 ≡ Ended (Returned (negsuc 0)) 0 0
unfolding main_is
rest_of_minus_seven = refl

-- case a < 1 of { no . u | yes . v }
if_positive : Obj → Obj → Obj → Obj
if_positive a u v = Case (Prim Lt a (Lit (pos 1))) (Value WholeT) (AndBranch 0 0 0 u (AndBranch 0 1 0 v NoBranches))

-- t - 1
less_one : Obj → Obj
less_one t = Prim Sub t (Lit (pos 1))

-- letrec f k := case k < 1 of { no . n + g (k - 1) | yes . 0 } and g k := case k < 1 of { no . 1 + f (k - 1) | yes . 0 }; f n
in_turns : Obj
unfolding if_positive less_one
in_turns =
    LetRec (AndDef (Arrow WholeT (Value WholeT)) (OLam WholeT (if_positive (Var 0) (Prim Add (Var 3) (OApp (Var 1) (less_one (Var 0)))) (Lit (pos 0))))
    (AndDef (Arrow WholeT (Value WholeT)) (OLam WholeT (if_positive (Var 0) (Prim Add (Lit (pos 1)) (OApp (Var 2) (less_one (Var 0)))) (Lit (pos 0)))) NoDefs))
    (OApp (Var 1) (Var 2))

-- of a group the last definition has index 0: 4 + 1 + 4 + 1 + 0
groups_keep_their_order : program_run (main_of in_turns) (pos 4 ∷ []) 0 300 ≡ Ended (Returned (pos 10)) 5 5
unfolding main_of in_turns if_positive less_one
groups_keep_their_order = refl

-- letrec even k := case k < 1 of { no . odd (k - 1) | yes . 1 } and odd k := case k < 1 of { no . even (k - 1) | yes . 0 }; even n
is_even : Obj
unfolding if_positive less_one
is_even =
    LetRec (AndDef (Arrow WholeT (Value WholeT)) (OLam WholeT (if_positive (Var 0) (OApp (Var 1) (less_one (Var 0))) (Lit (pos 1))))
    (AndDef (Arrow WholeT (Value WholeT)) (OLam WholeT (if_positive (Var 0) (OApp (Var 2) (less_one (Var 0))) (Lit (pos 0)))) NoDefs))
    (OApp (Var 1) (Var 2))

-- the definitions of a group are joins together
a_group_of_joins : program_run (main_of is_even) (pos 3 ∷ []) 0 300 ≡ Ended (Returned (pos 0)) 0 0
unfolding main_of is_even if_positive less_one
a_group_of_joins = refl

-- let f x = x + 1; f 1 + f 1
called_twice : Obj
called_twice =
    LetV (Arrow WholeT (Value WholeT)) (OLam WholeT (Prim Add (Var 0) (Lit (pos 1)))) (Prim Add (OApp (Var 0) (Lit (pos 1))) (OApp (Var 0) (Lit (pos 1))))

-- a call that has returned is open no more
calls_are_closed : program_run (main_is called_twice) [] 0 60 ≡ Ended (Returned (pos 4)) 2 1
unfolding main_is called_twice
calls_are_closed = refl

-- letrec f k := case k < 1 of { no . f (k - 1) | yes . 7 }; 1 + f n
own_loop : Obj
unfolding if_positive less_one
own_loop =
    LetRec (AndDef (Arrow WholeT (Value WholeT)) (OLam WholeT (if_positive (Var 0) (OApp (Var 1) (less_one (Var 0))) (Lit (pos 7)))) NoDefs)
    (Prim Add (Lit (pos 1)) (OApp (Var 0) (Var 1)))

-- what is no join is called from outside, and jumped to in tail positions of its own definition
own_jumps : program_run (main_of own_loop) (pos 3 ∷ []) 0 100 ≡ Ended (Returned (pos 8)) 1 1
unfolding main_of own_loop if_positive less_one
own_jumps = refl

-- letrec f k := case k < 1 of { no . let g x = f x; 1 + g (k - 1) | yes . 0 }; f n
through_another : Obj
unfolding if_positive less_one
through_another =
    LetRec (AndDef (Arrow WholeT (Value WholeT)) (OLam WholeT (if_positive (Var 0)
    (LetV (Arrow WholeT (Value WholeT)) (OLam WholeT (OApp (Var 2) (Var 0))) (Prim Add (Lit (pos 1)) (OApp (Var 0) (less_one (Var 1)))))
    (Lit (pos 0)))) NoDefs)
    (OApp (Var 0) (Var 1))

-- a tail position of a definition inside, that is no join, is none of the definition around
calls_through_another : program_run (main_of through_another) (pos 2 ∷ []) 0 200 ≡ Ended (Returned (pos 2)) 5 5
unfolding main_of through_another if_positive less_one
calls_through_another = refl
