use Rattle.std.proofs.Common.{subst}
use Rattle.cf_parse.specs.Kinds as kind
use Rattle.cf_parse.specs.Kinds.{AllFit, params}
use Rattle.cf_parse.specs.Values.{sems}
use Rattle.cf_parse.proofs.actions.reduce_at.Goals as goal

pub more-requires : goal.more-requires
more-requires c = (kind.Decl, (tt, subst (λ p. AllFit (params p) (sems c.args.source.now c.args.values.now)) c.in-FirstDecl.is c.requires))

pub more-requires-in-FirstParam : goal.more-requires-in-FirstParam
more-requires-in-FirstParam c = (kind.Name, (tt, subst (λ p. AllFit (params p) (sems c.args.source.now c.args.values.now)) c.in-FirstParam.is c.requires))

pub more-requires-in-FirstCtor : goal.more-requires-in-FirstCtor
more-requires-in-FirstCtor c = (kind.Ctor, (tt, subst (λ p. AllFit (params p) (sems c.args.source.now c.args.values.now)) c.in-FirstCtor.is c.requires))

pub more_behind-requires : goal.more_behind-requires
more_behind-requires c = (kind.Ctor, (tt, subst (λ p. AllFit (params p) (sems c.args.source.now c.args.values.now)) c.in-NextCtor.is c.requires))

pub more-requires-in-FirstTerm : goal.more-requires-in-FirstTerm
more-requires-in-FirstTerm c = (kind.Term, (tt, subst (λ p. AllFit (params p) (sems c.args.source.now c.args.values.now)) c.in-FirstTerm.is c.requires))

pub more_behind-requires-in-NextTerm : goal.more_behind-requires-in-NextTerm
more_behind-requires-in-NextTerm c = (kind.Term, (tt, subst (λ p. AllFit (params p) (sems c.args.source.now c.args.values.now)) c.in-NextTerm.is c.requires))

pub more-requires-in-FirstBranch : goal.more-requires-in-FirstBranch
more-requires-in-FirstBranch c = (kind.Arm, (tt, subst (λ p. AllFit (params p) (sems c.args.source.now c.args.values.now)) c.in-FirstBranch.is c.requires))

pub more_behind-requires-in-NextBranch : goal.more_behind-requires-in-NextBranch
more_behind-requires-in-NextBranch c = (kind.Arm, (tt, subst (λ p. AllFit (params p) (sems c.args.source.now c.args.values.now)) c.in-NextBranch.is c.requires))

pub more-requires-in-FirstArgument : goal.more-requires-in-FirstArgument
more-requires-in-FirstArgument c = (kind.Argument, (tt, subst (λ p. AllFit (params p) (sems c.args.source.now c.args.values.now)) c.in-FirstArgument.is c.requires))

pub more-requires-in-FirstBinder : goal.more-requires-in-FirstBinder
more-requires-in-FirstBinder c = (kind.Binder, (tt, subst (λ p. AllFit (params p) (sems c.args.source.now c.args.values.now)) c.in-FirstBinder.is c.requires))
