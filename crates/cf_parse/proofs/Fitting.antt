-- Each right side asks of the meanings of its symbols what its kind says, and gives a meaning of its phrase's kind.
use Rattle.std.proofs.Common.{◌≡◌, ◌∙◌, refl, ap, sym, subst, ℕ, zero, suc, true, false, List, [], ◌∷◌, map, Some, slice_get}
use Rattle.cf_base.specs.declared.at.At.{At}
use Rattle.cf_grammar.specs.Grammar.{rules}
use Rattle.cf_grammar.specs.Productions.{at_number, productions}
use Rattle.cf_grammar.specs.declared.phrases.Phrase.{Phrase}
use Rattle.cf_grammar.specs.declared.phrases.Phrase.TheVariants as phrase
use Rattle.cf_grammar.specs.declared.phrases.Symbol.{Symbol}
use Rattle.cf_grammar.specs.declared.productions.Production.{Production}
use Rattle.cf_grammar.specs.declared.productions.Production.TheVariants as by
use Rattle.cf_parse.proofs.Making.{word_fits}
use Rattle.cf_syntax.proofs.Cases.{clash, none_some, some_inj}
use Rattle.cf_parse.specs.Evaluation.{action, arity, firsts}
use Rattle.cf_parse.specs.Kinds as kind
use Rattle.cf_parse.specs.Kinds.{Kind, Many, Maybe, Fits, AllFit, end, next, kind_of, of_symbol, params, IsOptional, Gives, a_token, a_name, a_whole, a_natlit, a_word, a_term, a_binder, a_domain, an_argument, an_onto, brackets, an_arm, a_ctor, a_decl, a_program, none, more, left_out, given}
use Rattle.cf_parse.specs.Meaning.{Sem, actions, nothing}
use Rattle.cf_parse.specs.Standing.{nullable}

-- the right sides of a phrase, each with its kind
abbrev pub Matched : List (List Symbol) → List Production → Kind → Type 0
Matched [] ps j = Unit {0}
Matched (r ∷ rs) [] j = ⊥
Matched (r ∷ rs) (p ∷ ps) j = (map of_symbol r ≡ params p) × (Gives p j × Matched rs ps j)

pub matched : (n : Phrase) → Matched (rules n) (productions n) (kind_of n)
matched phrase.Program = (refl, (refl, (refl, (refl, (refl, (refl, (refl, (tt, tt))))))))
matched (phrase.Decls x k) = (refl, (tt, (refl, (refl, tt))))
matched (phrase.Decl x k) = (refl, (refl, (refl, (refl, (refl, (refl, tt))))))
matched (phrase.Params k) = (refl, (tt, (refl, (refl, tt))))
matched (phrase.Param k) = (refl, (refl, tt))
matched (phrase.Ctors x k) = (refl, (tt, (refl, (refl, tt))))
matched (phrase.MoreCtors x k) = (refl, (tt, (refl, (refl, tt))))
matched (phrase.Ctor x k) = (refl, (refl, tt))
matched (phrase.Fields x k) = (refl, (tt, (refl, (refl, tt))))
matched (phrase.MoreFields x k) = (refl, (tt, (refl, (refl, tt))))
matched (phrase.Field x k) = (refl, (refl, tt))
matched (phrase.Terms x d) = (refl, (tt, (refl, (refl, tt))))
matched (phrase.MoreTerms x d) = (refl, (tt, (refl, (refl, tt))))
matched (phrase.Term x d) = (refl, (refl, (refl, (refl, (refl, (refl, (refl, (refl, (refl, (refl, (refl, (refl, (refl, (refl, (refl, (refl, (refl, (refl, tt))))))))))))))))))
matched (phrase.Lambda true d) = (refl, (refl, tt))
matched (phrase.Lambda false d) = (refl, (refl, (refl, (refl, (refl, (refl, tt))))))
matched (phrase.Fn true d) = (refl, (refl, tt))
matched (phrase.Fn false d) = (refl, (refl, (refl, (refl, tt))))
matched (phrase.PiBinder true d) = (refl, (refl, tt))
matched (phrase.PiBinder false d) = (refl, (refl, (refl, (refl, tt))))
matched (phrase.CaseType true d) = (refl, (refl, tt))
matched (phrase.CaseType false d) = (refl, (refl, (refl, (tt, tt))))
matched (phrase.Branches x d) = (refl, (tt, (refl, (refl, tt))))
matched (phrase.MoreBranches x d) = (refl, (tt, (refl, (refl, tt))))
matched (phrase.Branch x d) = (refl, (refl, tt))
matched (phrase.Arrow x d) = (refl, (tt, (refl, (refl, (refl, (refl, tt))))))
matched (phrase.Chain x d) = (refl, (refl, tt))
matched (phrase.Operands x d k) = (refl, (tt, (refl, (refl, tt))))
matched (phrase.Operand x d k) = (refl, (refl, tt))
matched (phrase.App x d) = (refl, (refl, tt))
matched (phrase.Args x d k) = (refl, (tt, (refl, (refl, tt))))
matched (phrase.Arg true d k) = (refl, (refl, tt))
matched (phrase.Arg false d k) = (refl, (refl, (refl, (refl, tt))))
matched (phrase.Head x d) = (refl, (refl, (refl, (refl, (refl, (refl, (refl, (refl, (refl, (refl, (refl, (refl, (refl, (refl, (refl, (refl, (refl, (refl, (refl, (refl, (refl, (refl, (refl, (refl, (refl, (refl, (refl, (refl, (refl, (refl, (refl, (refl, (refl, (refl, (refl, (refl, (refl, (refl, (refl, (refl, (refl, (refl, (refl, (refl, tt))))))))))))))))))))))))))))))))))))))))))))
matched (phrase.Atom true d) = (refl, (refl, (refl, (refl, (refl, (refl, (refl, (refl, (refl, (refl, (refl, (refl, (refl, (refl, (refl, (refl, (refl, (refl, (refl, (refl, (refl, (refl, (refl, (refl, (refl, (refl, (refl, (refl, (refl, (refl, (refl, (refl, (refl, (refl, (refl, (refl, (refl, (refl, tt))))))))))))))))))))))))))))))))))))))
matched (phrase.Atom false d) = (refl, (refl, (refl, (refl, (refl, (refl, (refl, (refl, (refl, (refl, (refl, (refl, (refl, (refl, (refl, (refl, (refl, (refl, (refl, (refl, (refl, (refl, (refl, (refl, (refl, (refl, (refl, (refl, (refl, (refl, (refl, (refl, (refl, (refl, (refl, (refl, (refl, (refl, (refl, (refl, tt))))))))))))))))))))))))))))))))))))))))
matched (phrase.Code x d) = (refl, (refl, (refl, (refl, tt))))
matched (phrase.Brackets x d) = (refl, (tt, (refl, (refl, tt))))
matched (phrase.ConBrackets true d) = (refl, (refl, tt))
matched (phrase.ConBrackets false d) = (refl, (refl, (refl, (tt, tt))))
matched (phrase.Second true d) = (refl, (tt, tt))
matched (phrase.Second false d) = (refl, (tt, (refl, (refl, tt))))
matched phrase.Binder = (refl, (refl, (refl, (refl, tt))))
matched phrase.Binders = (refl, (tt, (refl, (refl, tt))))

-- the kinds of right sides tell their actions
pub acting : (n : Phrase) → map action (productions n) ≡ actions n
acting phrase.Program = refl
acting (phrase.Decls x k) = refl
acting (phrase.Decl x k) = refl
acting (phrase.Params k) = refl
acting (phrase.Param k) = refl
acting (phrase.Ctors x k) = refl
acting (phrase.MoreCtors x k) = refl
acting (phrase.Ctor x k) = refl
acting (phrase.Fields x k) = refl
acting (phrase.MoreFields x k) = refl
acting (phrase.Field x k) = refl
acting (phrase.Terms x d) = refl
acting (phrase.MoreTerms x d) = refl
acting (phrase.Term x d) = refl
acting (phrase.Lambda x d) = refl
acting (phrase.Fn x d) = refl
acting (phrase.PiBinder x d) = refl
acting (phrase.CaseType x d) = refl
acting (phrase.Branches x d) = refl
acting (phrase.MoreBranches x d) = refl
acting (phrase.Branch x d) = refl
acting (phrase.Arrow x d) = refl
acting (phrase.Chain x d) = refl
acting (phrase.Operands x d k) = refl
acting (phrase.Operand x d k) = refl
acting (phrase.App x d) = refl
acting (phrase.Args x d k) = refl
acting (phrase.Arg x d k) = refl
acting (phrase.Head x d) = refl
acting (phrase.Atom x d) = refl
acting (phrase.Code x d) = refl
acting (phrase.Brackets x d) = refl
acting (phrase.ConBrackets x d) = refl
acting (phrase.Second x d) = refl
acting phrase.Binder = refl
acting phrase.Binders = refl

-- nothing is a meaning of a phrase that may be empty
pub optional : (n : Phrase) → nullable (rules n) ≡ true → IsOptional (kind_of n)
optional phrase.Program e = tt
optional (phrase.Decls x k) e = tt
optional (phrase.Decl x k) e = clash (sym e)
optional (phrase.Params k) e = tt
optional (phrase.Param k) e = clash (sym e)
optional (phrase.Ctors x k) e = tt
optional (phrase.MoreCtors x k) e = tt
optional (phrase.Ctor x k) e = clash (sym e)
optional (phrase.Fields x k) e = tt
optional (phrase.MoreFields x k) e = tt
optional (phrase.Field x k) e = clash (sym e)
optional (phrase.Terms x d) e = tt
optional (phrase.MoreTerms x d) e = tt
optional (phrase.Term x d) e = clash (sym e)
optional (phrase.Lambda true d) e = clash (sym e)
optional (phrase.Lambda false d) e = clash (sym e)
optional (phrase.Fn true d) e = clash (sym e)
optional (phrase.Fn false d) e = clash (sym e)
optional (phrase.PiBinder true d) e = clash (sym e)
optional (phrase.PiBinder false d) e = clash (sym e)
optional (phrase.CaseType x d) e = tt
optional (phrase.Branches x d) e = tt
optional (phrase.MoreBranches x d) e = tt
optional (phrase.Branch x d) e = clash (sym e)
optional (phrase.Arrow x d) e = tt
optional (phrase.Chain x d) e = clash (sym e)
optional (phrase.Operands x d k) e = tt
optional (phrase.Operand x d k) e = clash (sym e)
optional (phrase.App x d) e = clash (sym e)
optional (phrase.Args x d k) e = tt
optional (phrase.Arg true d k) e = clash (sym e)
optional (phrase.Arg false d k) e = clash (sym e)
optional (phrase.Head x d) e = clash (sym e)
optional (phrase.Atom true d) e = clash (sym e)
optional (phrase.Atom false d) e = clash (sym e)
optional (phrase.Code x d) e = clash (sym e)
optional (phrase.Brackets x d) e = tt
optional (phrase.ConBrackets x d) e = tt
optional (phrase.Second x d) e = tt
optional phrase.Binder e = clash (sym e)
optional phrase.Binders e = tt

-- a right side that is there is of the kind with its number
pub record Right (ps : List Production) (w : ℕ) (r : List Symbol) (j : Kind) : Type 0 where
  pub by : Production
  pub there : slice_get ps w ≡ Some by
  pub asks : map of_symbol r ≡ params by
  pub gives : Gives by j

pub right : (rs : List (List Symbol)) (ps : List Production) (j : Kind) → Matched rs ps j → (w : ℕ) (r : List Symbol) → slice_get rs w ≡ Some r → Right ps w r j
right [] ps j m w r e = none_some e
right (s ∷ rs) [] j m w r e = absurd m
right (s ∷ rs) (p ∷ ps) j m zero r e = record { by = p; there = refl; asks = ap (map of_symbol) (sym (some_inj e)) ∙ m.0; gives = m.1.0 }
right (s ∷ rs) (p ∷ ps) j m (suc w) r e =
    let o = right rs ps j m.1.1 w r e in
    record { by = o.by; there = o.there; asks = o.asks; gives = o.gives }

pub numbered_there : (ps : List Production) (w : ℕ) (p : Production) → slice_get ps w ≡ Some p → at_number ps (Some w) ≡ p
numbered_there [] w p e = none_some e
numbered_there (q ∷ ps) zero p e = some_inj e
numbered_there (q ∷ ps) (suc w) p e = numbered_there ps w p e

pub mapped_there : (ps : List Production) (w : ℕ) (p : Production) → slice_get ps w ≡ Some p → slice_get (map action ps) w ≡ Some (action p)
mapped_there [] w p e = none_some e
mapped_there (q ∷ ps) zero p e = ap (λ q. Some (action q)) (some_inj e)
mapped_there (q ∷ ps) (suc w) p e = mapped_there ps w p e

-- a kind under another name
under : {i j : Kind} {v : Sem} → j ≡ i → Fits i v → Fits j v
under {v = v} e h = subst (λ j. Fits j v) (sym e) h

pub nothing_fits : (j : Kind) → IsOptional j → Fits j nothing
nothing_fits (Many j) h = none
nothing_fits (Maybe j) h = left_out
nothing_fits kind.Token h = absurd h
nothing_fits kind.Name h = absurd h
nothing_fits kind.Whole h = absurd h
nothing_fits kind.NatLit h = absurd h
nothing_fits kind.Term h = absurd h
nothing_fits kind.Binder h = absurd h
nothing_fits kind.Domain h = absurd h
nothing_fits kind.Argument h = absurd h
nothing_fits kind.Onto h = absurd h
nothing_fits kind.Bracketed h = absurd h
nothing_fits kind.Arm h = absurd h
nothing_fits kind.Ctor h = absurd h
nothing_fits kind.Decl h = absurd h
nothing_fits kind.Program h = absurd h
nothing_fits (kind.Word n) h = absurd h

-- the action of a right side gives a meaning of the kind
pub acted : (p : Production) (at : At) (vs : List Sem) (j : Kind) → AllFit (params p) vs → Gives p j → Fits j (action p at (firsts (arity p) vs))
acted by.Empty at vs j h e = nothing_fits j e
acted by.Explicit at _ j (next a_token (next a_token (next m2 end))) e = under e (given a_program)
acted by.Prelude at _ j (next a_token (next a_token (next a_token (next m3 end)))) e = under e (given a_program)
acted by.Plain at _ j (next a_decl (next m1 end)) e = under e (given a_program)
acted by.FirstDecl at _ j (next h (next m1 end)) e = under e (more h m1)
acted by.Data at _ j (next a_token (next a_name (next m2 (next a_token (next m4 (next a_token end)))))) e = under e a_decl
acted by.Meta at _ j (next a_token (next a_name (next a_token (next a_term (next a_token (next a_term (next a_token end))))))) e = under e a_decl
acted by.Object at _ j (next a_name (next a_token (next a_term (next a_token (next a_term (next a_token end)))))) e = under e a_decl
acted by.FirstParam at _ j (next h (next m1 end)) e = under e (more h m1)
acted by.Param at _ j (next a_token (next a_name (next a_token (next (a_word q) (next a_token end))))) e = under e a_name
acted by.FirstCtor at _ j (next h (next m1 end)) e = under e (more h m1)
acted by.NextCtor at _ j (next a_token (next h (next m2 end))) e = under e (more h m2)
acted by.Ctor at _ j (next a_name (next a_token (next m2 (next a_token end)))) e = under e a_ctor
acted by.FirstTerm at _ j (next h (next m1 end)) e = under e (more h m1)
acted by.NextTerm at _ j (next a_token (next h (next m2 end))) e = under e (more h m2)
acted by.Same at _ j (next a_term end) e = under e a_term
acted by.Behind at _ j (next a_token (next a_term end)) e = under e (given a_term)
acted by.Lambda at _ j (next a_token (next a_domain (next a_token (next a_term end)))) e = under e a_term
acted by.Function at _ j (next a_token (next a_domain (next a_token (next a_term end)))) e = under e a_term
acted by.Let at _ j (next a_token (next a_binder (next a_token (next a_term (next a_token (next a_term (next a_token (next a_term end)))))))) e = under e a_term
acted by.LetV at _ j (next a_token (next a_binder (next a_token (next a_term (next a_token (next a_term (next a_token (next a_term end)))))))) e = under e a_term
acted by.LetRec at _ j (next a_token (next a_binder (next a_token (next a_term (next a_token (next a_term (next a_token (next a_term end)))))))) e = under e a_term
acted by.Pi at _ j (next a_token (next a_domain (next a_token (next a_term end)))) e = under e a_term
acted by.Sig at _ j (next a_token (next a_token (next a_binder (next a_token (next a_term (next a_token (next a_token (next a_term end)))))))) e = under e a_term
acted by.Case at _ j (next a_token (next a_term (next m2 (next a_token (next a_token (next m5 (next a_token end))))))) e = under e a_term
acted by.Arrow at _ j (next a_term (next left_out end)) e = under e a_term
acted by.Arrow at _ j (next a_term (next (given (an_onto {o = true})) end)) e = under e a_term
acted by.Arrow at _ j (next a_term (next (given (an_onto {o = false})) end)) e = under e a_term
acted by.TypedBinder at _ j (next a_token (next a_binder (next a_token (next a_term (next a_token end))))) e = under e a_domain
acted by.ImplicitBinder at _ j (next a_token (next a_binder (next a_token (next a_term (next a_token end))))) e = under e a_domain
acted by.UntypedBinder at _ j (next a_binder end) e = under e a_domain
acted by.FirstBranch at _ j (next h (next m1 end)) e = under e (more h m1)
acted by.NextBranch at _ j (next a_token (next h (next m2 end))) e = under e (more h m2)
acted by.Branch at _ j (next a_name (next m1 (next a_token (next a_term end)))) e = under e an_arm
acted by.OntoMeta at _ j (next a_token (next a_term end)) e = under e (given an_onto)
acted by.OntoObject at _ j (next a_token (next a_term end)) e = under e (given an_onto)
acted by.Chain at _ j (next a_term (next m1 end)) e = under e a_term
acted by.Application at _ j (next a_term (next m1 end)) e = under e a_term
acted by.FirstArgument at _ j (next h (next m1 end)) e = under e (more h m1)
acted by.ExplicitArgument at _ j (next a_term end) e = under e an_argument
acted by.ImplicitArgument at _ j (next a_token (next a_term (next a_token end))) e = under e an_argument
acted by.Constant at _ j (next (a_word q) end) e = under e (word_fits _ _ q at _)
acted by.OneAtom at _ j (next (a_word q) (next a_term end)) e = under e (word_fits _ _ q at _)
acted by.TwoAtoms at _ j (next (a_word q) (next a_term (next a_term end))) e = under e (word_fits _ _ q at _)
acted by.ThreeAtoms at _ j (next (a_word q) (next a_term (next a_term (next a_term end)))) e = under e (word_fits _ _ q at _)
acted by.FourAtoms at _ j (next (a_word q) (next a_term (next a_term (next a_term (next a_term end))))) e = under e (word_fits _ _ q at _)
acted by.Variable at _ j (next a_name (next left_out end)) e = under e a_term
acted by.Variable at _ j (next a_name (next (given brackets) end)) e = under e a_term
acted by.Literal at _ j (next (a_whole q) end) e = under e a_term
acted by.Numeral at _ j (next (a_natlit q) end) e = under e a_term
acted by.Construction at _ j (next a_token (next a_name (next left_out (next a_token (next m4 (next a_token end)))))) e = under e a_term
acted by.Construction at _ j (next a_token (next a_name (next (given brackets) (next a_token (next m4 (next a_token end)))))) e = under e a_term
acted by.Enclosed at _ j (next a_token (next a_term (next left_out (next a_token end)))) e = under e a_term
acted by.Enclosed at _ j (next a_token (next a_term (next (given a_term) (next a_token end)))) e = under e a_term
acted by.Quote at _ j (next a_token (next a_term (next a_token end))) e = under e a_term
acted by.Splice at _ j (next a_token (next a_term end)) e = under e a_term
acted by.Lift at _ j (next a_token (next a_term end)) e = under e a_term
acted by.Hole at _ j (next a_token end) e = under e a_term
acted by.Brackets at _ j (next a_token (next m1 (next a_token end))) e = under e (given brackets)
acted by.Named at _ j (next a_name end) e = under e a_binder
acted by.Unnamed at _ j (next a_token end) e = under e a_binder
acted by.FirstBinder at _ j (next h (next m1 end)) e = under e (more h m1)
