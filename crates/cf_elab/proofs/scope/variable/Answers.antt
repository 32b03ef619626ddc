use Rattle.std.proofs.Common.{◌≡◌, ◌∙◌, ap, sym, refl, length, position, string_bytes, Some, None, ◌+◌, arith}
use Rattle.std.specs.Str.{bytes_eq}
use Rattle.cf_elab.specs.Scope.{is_named}
use Rattle.cf_elab.proofs.Variables.{variable_first}
use Rattle.cf_elab.proofs.scope.variable.Goals as goal

pub returns-in_ok-number-in-Some-clause-value : goal.returns-in_ok-number-in-Some-clause-value
returns-in_ok-number-in-Some-clause-value c =
    let x = string_bytes c.args.name.now in
    let g = c.args.g.now in
    let e = c.in-Some.ensures ∙ ap (λ y. position (is_named y) c.args.locals.now) c.as_str.ensures.value in
    variable_first g c.args.locals.now x (Some c.in-Some.i) (position (bytes_eq x) g.variables) e refl ∙ ap Some (sym c.in_ok-number-in-Some.ensures.value)

pub returns-in_ok-sum-in-Some-variable-clause-value : goal.returns-in_ok-sum-in-Some-variable-clause-value
returns-in_ok-sum-in-Some-variable-clause-value c =
    let x = string_bytes c.args.name.now in
    let g = c.args.g.now in
    let e = c.in-None.ensures ∙ ap (λ y. position (is_named y) c.args.locals.now) c.as_str.ensures.value in
    let e' = c.in-Some-variable.ensures ∙ ap (λ y. position (bytes_eq y) g.variables) c.as_str-in-None.ensures.value in
    let n : length c.args.locals.now + c.in-Some-variable.i ≡ c.in_ok-sum-in-Some-variable.field-0 =
    omega (arith, c.in_ok-sum-in-Some-variable.ensures.value, c.in_ok-inner-in-Some-variable.ensures.value, c.in_ok-outer-in-Some-variable.ensures.value, c.len.ensures) in
    variable_first g c.args.locals.now x None (Some c.in-Some-variable.i) e e' ∙ ap Some n

pub returns-in-None-variable-clause-refused : goal.returns-in-None-variable-clause-refused
returns-in-None-variable-clause-refused c =
    let x = string_bytes c.args.name.now in
    let g = c.args.g.now in
    let e = c.in-None.ensures ∙ ap (λ y. position (is_named y) c.args.locals.now) c.as_str.ensures.value in
    let e' = c.in-None-variable.ensures ∙ ap (λ y. position (bytes_eq y) g.variables) c.as_str-in-None.ensures.value in
    (variable_first g c.args.locals.now x None None e e', refl)
