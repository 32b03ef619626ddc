-- The tree of forms that a term is seen as: one clause for each form.
use Rattle.std.specs.Prelude.{Bool, true, false, List, [], ◌∷◌, length}
use Rattle.std.specs.declared.rc.Rc.{Rc}
use Rattle.cf_term.specs.Core.{Tm, var, node, Tms, nil, cons, Branch}
use Rattle.cf_term.specs.Forms.{MetaTy, ValTy, CompTy, Ty, Pi, Lam, App, Let, Sig, Pair, Fst, Snd, UnitTy, Triv, UnitRec, BoolTy, True, False, BoolRec, NatTy, Zero, Suc, NatRec, ListTy, Nil, Cons, ListRec, Lift, Quote, V, C, IntTy, Data, Arr, Lit, Prim, LetV, LetRec, OLam, OApp, Con, Case, Fail, Splice, Hole, Mark}
use Rattle.cf_term.specs.declared.forms.TermNode.{TermNode}
use Rattle.cf_term.specs.declared.forms.TermNode.TheVariants as form
use Rattle.cf_term.specs.declared.forms.Branch as branch
use Rattle.cf_term.specs.declared.forms.Definition.{Definition}

-- these terms before others
abbrev pub listed : {Z : Type 0} → List (Rc Tm Z) → Tms → Tms
listed [] us = us
listed (t ∷ ts) us = cons t.value (listed ts us)

-- the type and the body of each definition, before other terms
abbrev pub definitions : List Definition → Tms → Tms
definitions [] us = us
definitions (d ∷ ds) us = cons d.ty.value (cons d.value.value (definitions ds us))

-- the branches without their bodies
abbrev pub heads : List (branch.Branch) → List Branch
heads [] = []
heads (b ∷ bs) = record { type = b.data_type; ctor = b.ctor; names = b.names } ∷ heads bs

-- the bodies of the branches
abbrev pub bodies : List (branch.Branch) → Tms
bodies [] = nil
bodies (b ∷ bs) = cons b.body.value (bodies bs)

-- the tree of a form
abbrev pub tm_of : TermNode → Tm
tm_of (form.Var n) = var n
tm_of form.MetaTy = MetaTy
tm_of form.ValTy = ValTy
tm_of form.CompTy = CompTy
tm_of form.Ty = Ty
tm_of (form.Pi i a b) = Pi i a.value b.value
tm_of (form.Lam i a t) = Lam i a.value t.value
tm_of (form.App i t u) = App i t.value u.value
tm_of (form.Let a t u) = Let a.value t.value u.value
tm_of (form.Sig a b) = Sig a.value b.value
tm_of (form.Pair s t u) = Pair s.value t.value u.value
tm_of (form.Fst t) = Fst t.value
tm_of (form.Snd t) = Snd t.value
tm_of form.UnitTy = UnitTy
tm_of form.Unit = Triv
tm_of (form.UnitRec p u n) = UnitRec p.value u.value n.value
tm_of form.BoolTy = BoolTy
tm_of form.True = True
tm_of form.False = False
tm_of (form.BoolRec p t f n) = BoolRec p.value t.value f.value n.value
tm_of form.NatTy = NatTy
tm_of form.Zero = Zero
tm_of (form.Suc n) = Suc n.value
tm_of (form.NatRec p z s n) = NatRec p.value z.value s.value n.value
tm_of (form.ListTy a) = ListTy a.value
tm_of (form.Nil a) = Nil a.value
tm_of (form.Cons t u) = Cons t.value u.value
tm_of (form.ListRec p n c l) = ListRec p.value n.value c.value l.value
tm_of (form.Lift a) = Lift a.value
tm_of (form.Quote o) = Quote o.value
tm_of (form.V a) = V a.value
tm_of (form.C b) = C b.value
tm_of form.IntTy = IntTy
tm_of (form.Data d ts) = Data d (listed ts.items nil)
tm_of (form.Arr a b) = Arr a.value b.value
tm_of (form.Lit z) = Lit z
tm_of (form.Prim o t u) = Prim o t.value u.value
tm_of (form.LetV a t u) = LetV a.value t.value u.value
tm_of (form.LetRec ds u) = LetRec (length ds.items) (definitions ds.items (cons u.value nil))
tm_of (form.OLam a t) = OLam a.value t.value
tm_of (form.OApp t u) = OApp t.value u.value
tm_of (form.Con d c ps ts) = Con d c (length ps.items) (listed ps.items (listed ts.items nil))
tm_of (form.Case t b bs) = Case (heads bs.items) t.value b.value (bodies bs.items)
tm_of (form.Fail a) = Fail a.value
tm_of (form.Splice u) = Splice u.value
tm_of (form.Hole k) = Hole k

-- an inserted form is its mark with the form as its one part; a mark on a variable says nothing
abbrev pub marked : Bool → Tm → Tm
marked m (var i) = var i
marked false (node h ts) = node h ts
marked true (node h ts) = Mark (node h ts)
