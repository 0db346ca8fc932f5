-- How much is to be done: what a step plans weighs less than what it does.
use Rattle.std.specs.Prelude.{ℕ, ◌+◌, ◌*◌, List, [], ◌∷◌}
use Rattle.syntax.specs.declared.formula.Projection.{Projection}
use Rattle.codes.specs.declared.code.Code.{Code, Bound, Defined, Let', Universe, Nat, Zero, Suc'}
use Rattle.codes.specs.declared.code.Code.{NatRec', Pi', Sigma', Lambda', PathLambda', Apply'}
use Rattle.codes.specs.declared.code.Code.{Project', Tuple', PathP', Comp', Fill', Transport'}
use Rattle.codes.specs.declared.code.Code.{GlueType', GlueTerm', Unglue'}
use Rattle.codes.specs.declared.code.Code.{Row_of-Code, end_of-Code, more_of-Code}
use Rattle.codes.specs.declared.code.Code.{Row_of-CodeDef, end_of-CodeDef, more_of-CodeDef}
use Rattle.codes.specs.declared.code.Code.{Row_of-Binder, end_of-Binder, more_of-Binder}
use Rattle.codes.specs.declared.code.Code.{Row_of-Element, end_of-Element, more_of-Element}
use Rattle.codes.specs.declared.code.Element.{Element, Argument as Argument', At as At'}
use Rattle.codes.specs.declared.code.Opened.{Opened, Under, Applied}
use Rattle.codes.specs.declared.code.CodeDef.{CodeDef, CodeDef'}
use Rattle.codes.specs.declared.code.Binder.{Binder}
use Rattle.typing_tasks.specs.Outcomes.{type_of, body_of}
use Rattle.typing_tasks.specs.declared.tasks.Task.{Task}
use Rattle.typing_tasks.specs.declared.tasks.Task.TheVariants as task
use Rattle.typing_tasks.specs.declared.tasks.Defining.{Defining}
use Rattle.typing_tasks.specs.declared.tasks.Defining.TheVariants as defining
use Rattle.typing_tasks.specs.declared.tasks.Binding.{Binding}
use Rattle.typing_tasks.specs.declared.tasks.Binding.TheVariants as binding
use Rattle.typing_tasks.specs.declared.tasks.Pairing.{Pairing}
use Rattle.typing_tasks.specs.declared.tasks.Pairing.TheVariants as pairing
use Rattle.typing_tasks.specs.declared.tasks.Eliminating.{Eliminating}
use Rattle.typing_tasks.specs.declared.tasks.Eliminating.TheVariants as eliminating
use Rattle.typing_tasks.specs.declared.tasks.Recurring.{Recurring}
use Rattle.typing_tasks.specs.declared.tasks.Recurring.TheVariants as recurring
use Rattle.typing_tasks.specs.declared.tasks.Lining.{Lining}
use Rattle.typing_tasks.specs.declared.tasks.Lining.TheVariants as lining
use Rattle.typing_tasks.specs.declared.tasks.Inner.{Inner}
use Rattle.typing_tasks.specs.declared.tasks.Inner.TheVariants as inner

abbrev pub projections_size : List Projection → ℕ
projections_size [] = 0
projections_size (p ∷ ps) = 16 + projections_size ps

-- 16 for each word of a code
abbrev mutual
  pub size : Code → ℕ
  size (Bound s k) = 16
  size (Defined s n) = 16
  size (Let' s shape ds p c) = 16 + (defs_size ds + size c)
  size (Universe s) = 16
  size (Nat s) = 16
  size (Zero s) = 16
  size (Suc' s p c) = 16 + size c
  size (NatRec' s p m q a r b t n) = 16 + (opened_size m + (size a + (size b + size n)))
  size (Pi' s shape bs p c) = 16 + (binders_size bs + size c)
  size (Sigma' s shape bs p c) = 16 + (binders_size bs + size c)
  size (Lambda' s shape bs p c) = 16 + (binders_size bs + size c)
  size (PathLambda' s n p c) = 16 + (16 * n + size c)
  size (Apply' s p c shape es) = 16 + (size c + elements_size es)
  size (Project' s p c ps) = 16 + (size c + projections_size ps)
  size (Tuple' s shape cs) = 16 + codes_size cs
  size (PathP' s p l q a r b) = 16 + (opened_size l + (size a + size b))
  size (Comp' s p l q a shape ss) = 16 + (opened_size l + size a)
  size (Transport' s p l q a) = 16 + (opened_size l + size a)
  size (Fill' s p l q a shape ss) = 16
  size (GlueType' s p a shape ss) = 16
  size (GlueTerm' s p a shape ss) = 16
  size (Unglue' s p a shape ss) = 16

  pub opened_size : Opened → ℕ
  opened_size (Under s c) = 16 + size c
  opened_size (Applied s c) = 16 + size c

  pub codes_size : {m : _} → Row_of-Code m → ℕ
  codes_size end_of-Code = 0
  codes_size (more_of-Code c rest) = 16 + (size c + codes_size rest)

  pub binders_size : {m : _} → Row_of-Binder m → ℕ
  binders_size end_of-Binder = 0
  binders_size (more_of-Binder n c rest) = 16 + (16 * n + (size c + binders_size rest))

  pub elements_size : {m : _} → Row_of-Element m → ℕ
  elements_size end_of-Element = 0
  elements_size (more_of-Element (Argument' c) rest) = 16 + (size c + elements_size rest)
  elements_size (more_of-Element (At' s f) rest) = 16 + elements_size rest

  pub def_size : CodeDef → ℕ
  def_size (CodeDef' x n shape bs t c) = 16 + (binders_size bs + (size t + size c))

  pub defs_size : {m : _} → Row_of-CodeDef m → ℕ
  defs_size end_of-CodeDef = 0
  defs_size (more_of-CodeDef d rest) = 16 + (def_size d + defs_size rest)

-- closed words, so that a goal shows their names

unfoldable pub weight_of : Code → ℕ
weight_of = size

unfoldable pub opened_weight : Opened → ℕ
opened_weight = opened_size

unfoldable pub def_weight : CodeDef → ℕ
def_weight = def_size

-- The same of lists.

abbrev pub sum : {A : Type 0} → (A → ℕ) → List A → ℕ
sum f [] = 0
sum f (x ∷ xs) = 16 + (f x + sum f xs)

abbrev pub binder_weight : Binder → ℕ
binder_weight b = 16 * b.names + weight_of b.ty

abbrev pub element_weight : Element → ℕ
element_weight (Argument' c) = weight_of c
element_weight (At' s f) = 0

-- of tasks

abbrev pub inner_weight : Inner → ℕ
inner_weight (inner.Family f sort c) = 5 + weight_of c.now
inner_weight (inner.Function c) = 5 + weight_of c.now
inner_weight (inner.Definition d) =
    11 + (weight_of (type_of d.now) + weight_of (body_of d.now))

abbrev pub defining_weight : Defining → ℕ
defining_weight (defining.Block ds) = 1 + sum def_weight ds.now
defining_weight (defining.Body c) = 4 + weight_of c.now
defining_weight (defining.Close n) = 1
defining_weight (defining.End n) = 1

abbrev pub binding_weight : Binding → ℕ
binding_weight (binding.Under bs i) = 1 + (sum binder_weight bs.now + inner_weight i)
binding_weight (binding.Over n bs i) =
    2 + (16 * n + (sum binder_weight bs.now + inner_weight i))
binding_weight (binding.Close i) = 1
binding_weight (binding.Lambda bs c ty) = 4 + (sum binder_weight bs.now + weight_of c.now)
binding_weight (binding.Take n bs c ty) =
    5 + (16 * n + (sum binder_weight bs.now + weight_of c.now))
binding_weight binding.CloseFunction = 1

abbrev pub pairing_weight : Pairing → ℕ
pairing_weight (pairing.Components cs ty) = 1 + sum weight_of cs.now
pairing_weight (pairing.Second cs f) = 3 + sum weight_of cs.now
pairing_weight (pairing.Pair f) = 1
pairing_weight (pairing.Names n c ty) = 4 + (16 * n + weight_of c.now)
pairing_weight (pairing.CloseName ty) = 1

abbrev pub eliminating_weight : Eliminating → ℕ
eliminating_weight (eliminating.Elements es) = 1 + sum element_weight es.now
eliminating_weight (eliminating.Apply f) = 1
eliminating_weight (eliminating.Project ps) = 1 + projections_size ps.now
eliminating_weight (eliminating.Number c) = 4 + weight_of c.now
eliminating_weight eliminating.Successor = 1

abbrev pub recurring_weight : Recurring → ℕ
recurring_weight (recurring.Motive m) = opened_weight m.now
recurring_weight recurring.EnterNumber = 1
recurring_weight recurring.FamilyOfNumbers = 1
recurring_weight (recurring.Base c) = 4 + weight_of c.now
recurring_weight (recurring.Step c) = 4 + weight_of c.now
recurring_weight recurring.Close = 1

abbrev pub lining_weight : Lining → ℕ
lining_weight (lining.Line l sort) = opened_weight l.now
lining_weight lining.EnterName = 1
lining_weight lining.Leave = 1
lining_weight (lining.PathInUniverse sort) = 1
lining_weight (lining.Left c sort) = 4 + weight_of c.now
lining_weight (lining.Right c sort) = 4 + weight_of c.now
lining_weight (lining.ClosePath sort) = 1
lining_weight lining.Transport = 1

abbrev pub weight : Task → ℕ
weight (task.Infer c) = weight_of c.now
weight (task.Check c ty) = 3 + weight_of c.now
weight (task.Form c sort) = 4 + weight_of c.now
weight (task.Defining t) = defining_weight t
weight (task.Binding t) = binding_weight t
weight (task.Pairing t) = pairing_weight t
weight (task.Eliminating t) = eliminating_weight t
weight (task.Recurring t) = recurring_weight t
weight (task.Lining t) = lining_weight t
weight (task.Comparing t) = 1

abbrev pub weights : List Task → ℕ
weights [] = 0
weights (t ∷ ts) = weight t + weights ts
