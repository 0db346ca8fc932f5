-- Walks that read a tree.
use Rattle.std.proofs.Common.{◌≡◌, ℕ, suc, ◌+◌, ◌*◌, ◌<◌, ◌≤◌, ◌⊎◌, ⊎_elim, inl, inr, Bool, List, [], ◌∷◌, ◌++◌, length, map, reverse, Option, Some, None, is_some, refl, sym, ◌∙◌, ap, ap₂, subst, arith}
use Rattle.std.specs.Prelude.{IsSome}
use Rattle.std.specs.List.{All}
use Rattle.std.proofs.lemmas.List.{reverse-append}
use Rattle.std.proofs.lemmas.List.Elements.{All-nil, All-cons, All-head, All-tail}
use Rattle.trees.specs.Trees.{Tree, Var, Make, NoTrees, More}
use Rattle.trees.specs.Judgements.{Context}
use Rattle.trees.specs.Things.{Thing, Meanings}
use Rattle.rows.specs.Views.{IsTree}
use Rattle.rows.specs.Tables.{Grows}
use Rattle.rows.proofs.TableLaws.{grows-same, grows-grows}
use Rattle.closures.specs.Environments.{Waiting, listed, deepest}
use Rattle.closures.specs.declared.environments.Environment.TheVariants as env
use Rattle.closures.specs.Closures.{IsClosure, under, delays}
use Rattle.closures.proofs.HeadLaws.{closure-deeper, closure-grows, closure_meaning-grows}
use Rattle.side_conditions.specs.declared.subtree.Subtree.{Subtree}
use Rattle.side_conditions.specs.declared.shapes.Unary.{Unary}
use Rattle.side_conditions.specs.declared.shapes.Unary.TheVariants as unary
use Rattle.side_conditions.specs.declared.shapes.Shape.{Shape}
use Rattle.side_conditions.specs.declared.shapes.Shape.TheVariants as shape
use Rattle.side_conditions.specs.declared.reading.Reading.{Reading}
use Rattle.side_conditions.specs.declared.tasks.Task.{Task}
use Rattle.side_conditions.specs.declared.tasks.Task.TheVariants as task
use Rattle.side_conditions.specs.Sizes.{size}
use Rattle.side_conditions.specs.Levels.{indices, with_names}
use Rattle.side_conditions.specs.Readings.{Reads}
use Rattle.side_conditions.specs.Shapes.{tree_of, tree_at, shape_tree, shape_kids, ShapeFits, bound_by, unary_op, binary_op}
use Rattle.side_conditions.specs.Tables.{Table, IsAdded}
use Rattle.side_conditions.specs.Openings.{IsShapeOf}
use Rattle.side_conditions.specs.Walks.{task_at, asked, all_steps, TaskStands, TasksStand, Leads, IsCombined, Remembers}

-- the state of a walk to a root, which began over some nodes with some readings
pub record Walks (Valued : Type 0) (f : Meanings) (names : List Bool) (root : Subtree) (begin : List (List Waiting)) (before : Table) (known : List (List Waiting)) (table : Table) (tasks : List Task) : Type 0 where
  pub grows : Grows begin known
  pub keeps : (s : Subtree) → IsSome (before s) → IsSome (table s)
  pub stand : TasksStand f known names tasks
  pub leads : Leads root (λ q. IsSome (table q)) tasks
  pub remembers : Remembers Valued f known names table

-- nodes that are added

tree-grows : (f : Meanings) (known new : List (List Waiting)) (n : ℕ) (s : Subtree) → Grows known new → IsClosure f known n s.closure → tree_at f new s ≡ tree_at f known s
tree-grows f known new n s g c = ap tree_of (closure_meaning-grows f known new s.closure g c.environment.within)

kids-grow : (f : Meanings) (known new : List (List Waiting)) (n : ℕ) (ks : List Subtree) → Grows known new → All (λ k. IsClosure f known n k.closure) ks → All (λ k. IsClosure f new n k.closure) ks
kids-grow f known new n [] g all = All-nil (λ (k : Subtree). IsClosure f new n k.closure)
kids-grow f known new n (k ∷ ks) g all =
    All-cons (λ (q : Subtree). IsClosure f new n q.closure) k ks
    (closure-grows f known new n k.closure g (All-head (λ (q : Subtree). IsClosure f known n q.closure) k ks all))
    (kids-grow f known new n ks g (All-tail (λ (q : Subtree). IsClosure f known n q.closure) k ks all))

shape-grows : (f : Meanings) (known new : List (List Waiting)) (n count : ℕ) (s : Shape) → Grows known new → All (λ k. IsClosure f known n k.closure) (shape_kids s) → shape_tree (tree_at f new) count s ≡ shape_tree (tree_at f known) count s
shape-grows f known new n count (shape.Name level) g all = refl
shape-grows f known new n count (shape.Nullary c) g all = refl
shape-grows f known new n count (shape.Unary c k) g all =
    ap (λ t. Make (unary_op c) (More t NoTrees)) (tree-grows f known new n k g (All-head (λ (q : Subtree). IsClosure f known n q.closure) k [] all))
shape-grows f known new n count (shape.Binary c k l) g all =
    ap₂ (λ t u. Make (binary_op c) (More t (More u NoTrees)))
    (tree-grows f known new n k g (All-head (λ (q : Subtree). IsClosure f known n q.closure) k (l ∷ []) all))
    (tree-grows f known new n l g (All-head (λ (q : Subtree). IsClosure f known n q.closure) l [] (All-tail (λ (q : Subtree). IsClosure f known n q.closure) k (l ∷ []) all)))

task-grows : (f : Meanings) (known new : List (List Waiting)) (names : List Bool) (n : ℕ) (t : Task) → Grows known new → TaskStands f known names n t → TaskStands f new names n t
task-grows f known new names n (task.Read s) g stands = (stands.0, closure-grows f known new n s.closure g stands.1)
task-grows f known new names n (task.Combine s shape) g stands = (
  stands.0,
  closure-grows f known new n s.closure g stands.1,
  kids-grow f known new (suc n) (shape_kids shape) g stands.2,
  shape-grows f known new (suc n) (s.depth + length names) shape g stands.2 ∙ stands.3 ∙ sym (tree-grows f known new n s g stands.1),
  stands.4,
)

tasks-grow : (f : Meanings) (known new : List (List Waiting)) (names : List Bool) (ts : List Task) → Grows known new → TasksStand f known names ts → TasksStand f new names ts
tasks-grow f known new names [] g stand = tt
tasks-grow f known new names (t ∷ ts) g stand = (task-grows f known new names (length ts) t g stand.0, tasks-grow f known new names ts g stand.1)

task_closure : (f : Meanings) (known : List (List Waiting)) (names : List Bool) (n : ℕ) (t : Task) → TaskStands f known names n t → IsClosure f known n (task_at t).closure
task_closure f known names n (task.Read s) stands = stands.1
task_closure f known names n (task.Combine s shape) stands = stands.1

steps-grow : (f : Meanings) (known new : List (List Waiting)) (names : List Bool) (ts : List Task) → Grows known new → TasksStand f known names ts → all_steps (tree_at f new) ts ≡ all_steps (tree_at f known) ts
steps-grow f known new names [] g stand = refl
steps-grow f known new names (task.Read s ∷ ts) g stand =
    ap₂ (λ t n. 2 * size t + n) (tree-grows f known new (length ts) s g stand.0.1) (steps-grow f known new names ts g stand.1)
steps-grow f known new names (task.Combine s shape ∷ ts) g stand = ap (λ n. 1 + n) (steps-grow f known new names ts g stand.1)

pub remembers-grow : (Valued : Type 0) (f : Meanings) (known new : List (List Waiting)) (names : List Bool) (table : Table) → Grows known new → Remembers Valued f known names table → Remembers Valued f new names table
remembers-grow Valued f known new names table g r = record {
  kept = λ s there. closure-grows f known new deepest s.closure g (r.kept s there);
  right = λ G same s found is.
      subst (λ t. Reads Valued (with_names s.depth G) t found) (sym (tree-grows f known new deepest s g (r.kept s (ap is_some is)))) (r.right G same s found is);
}

-- what is present

leads-weaker : (root : Subtree) (P Q : Subtree → Type 0) (ts : List Task) → ((q : Subtree) → P q → Q q) → Leads root P ts → Leads root Q ts
leads-weaker root P Q [] weaker leads = weaker root leads
leads-weaker root P Q (task.Read s ∷ ts) weaker leads =
    leads-weaker root (λ q. P q ⊎ (q ≡ s)) (λ q. Q q ⊎ (q ≡ s)) ts (λ q. ⊎_elim (λ p. inl (weaker q p)) (λ e. inr e)) leads
leads-weaker root P Q (task.Combine s shape ∷ ts) weaker leads = (
  all-weaker (shape_kids shape) leads.0,
  leads-weaker root (λ q. P q ⊎ (q ≡ s)) (λ q. Q q ⊎ (q ≡ s)) ts (λ q. ⊎_elim (λ p. inl (weaker q p)) (λ e. inr e)) leads.1,
)
  where
    all-weaker : (ks : List Subtree) → All P ks → All Q ks
    all-weaker [] all = All-nil Q
    all-weaker (k ∷ ks) all = All-cons Q k ks (weaker k (All-head P k ks all)) (all-weaker ks (All-tail P k ks all))

leads-reads : (root : Subtree) (P : Subtree → Type 0) (ks : List Subtree) (rest : List Task) → ((Q : Subtree → Type 0) → ((q : Subtree) → P q → Q q) → All Q ks → Leads root Q rest) → Leads root P (map task.Read ks ++ rest)
leads-reads root P [] rest later = later P (λ q p. p) (All-nil P)
leads-reads root P (k ∷ ks) rest later =
    leads-reads root (λ q. P q ⊎ (q ≡ k)) ks rest
    (λ Q weaker all. later Q (λ q p. weaker q (inl p)) (All-cons Q k ks (weaker k (inr refl)) all))

-- what a shape asks for

kid_depths : (names : List Bool) (depth n : ℕ) (s : Shape) → depth ≤ n → ShapeFits names depth s → All (λ k. k.depth ≤ suc n) (shape_kids s)
kid_depths names depth n (shape.Name level) le fits = All-nil (λ (k : Subtree). k.depth ≤ suc n)
kid_depths names depth n (shape.Nullary c) le fits = All-nil (λ (k : Subtree). k.depth ≤ suc n)
kid_depths names depth n (shape.Unary c k) le fits =
    let b = bound c in
    All-cons (λ (q : Subtree). q.depth ≤ suc n) k [] (depth_below (bound_by c) depth n k.depth fits b le) (All-nil (λ (q : Subtree). q.depth ≤ suc n))
  where
    bound : (u : Unary) → bound_by u ≤ 1
    bound unary.All = omega arith
    bound _ = omega arith

    depth_below : (b d m here : ℕ) → here ≡ b + d → b ≤ 1 → d ≤ m → here ≤ suc m
    depth_below b d m here e l r = omega arith
kid_depths names depth n (shape.Binary c k l) le fits =
    All-cons (λ (q : Subtree). q.depth ≤ suc n) k (l ∷ []) (same_below k.depth fits.0)
    (All-cons (λ (q : Subtree). q.depth ≤ suc n) l [] (same_below l.depth fits.1) (All-nil (λ (q : Subtree). q.depth ≤ suc n)))
  where
    same_below : (here : ℕ) → here ≡ depth → here ≤ suc n
    same_below here e = omega arith

reads_stand : (f : Meanings) (known : List (List Waiting)) (names : List Bool) (n : ℕ) (ks : List Subtree) (rest : List Task) → n ≤ length rest → All (λ k. k.depth ≤ n) ks → All (λ k. IsClosure f known n k.closure) ks → TasksStand f known names rest → TasksStand f known names (map task.Read ks ++ rest)
reads_stand f known names n [] rest le depths stand later = later
reads_stand f known names n (k ∷ ks) rest le depths stand later =
    let more = longer ks in
    let d = All-head (λ (q : Subtree). q.depth ≤ n) k ks depths in (
      (
        omega arith,
        closure-deeper f known n (length (map task.Read ks ++ rest)) k.closure (omega arith) (All-head (λ (q : Subtree). IsClosure f known n q.closure) k ks stand),
      ),
      reads_stand f known names n ks rest le (All-tail (λ (q : Subtree). q.depth ≤ n) k ks depths) (All-tail (λ (q : Subtree). IsClosure f known n q.closure) k ks stand) later,
    )
  where
    longer : (qs : List Subtree) → length rest ≤ length (map task.Read qs ++ rest)
    longer [] = omega arith
    longer (q ∷ qs) = let h = longer qs in omega arith

steps_asked : (at : Subtree → Tree) (s : Subtree) (count : ℕ) (sh : Shape) (ts : List Task) → all_steps at (asked s sh ts) < 2 * size (shape_tree at count sh) + all_steps at ts
steps_asked at s count (shape.Name level) ts = omega arith
steps_asked at s count (shape.Nullary c) ts = omega arith
steps_asked at s count (shape.Unary c k) ts = omega arith
steps_asked at s count (shape.Binary c k l) ts = omega arith

-- the walk begins with one task

pub walk_begins : (Valued : Type 0) (f : Meanings) (names : List Bool) (root : Subtree) (known : List (List Waiting)) (table : Table) (items : List Task) → IsClosure f known 0 root.closure → root.depth ≡ 0 → Remembers Valued f known names table → items ≡ task.Read root ∷ [] → Walks Valued f names root known table known table (reverse items)
walk_begins Valued f names root known table items stands outermost remembers one =
    subst (λ ts. Walks Valued f names root known table known table (reverse ts)) (sym one) record {
      grows = grows-same known;
      keeps = λ s there. there;
      stand = ((omega arith, stands), tt);
      leads = inr refl;
      remembers = remembers;
    }

leads-rest : (root : Subtree) (P : Subtree → Type 0) (t : Task) (ts : List Task) → Leads root P (t ∷ ts) → Leads root (λ q. P q ⊎ (q ≡ task_at t)) ts
leads-rest root P (task.Read s) ts leads = leads
leads-rest root P (task.Combine s sh) ts leads = leads.1

size_pos : (t : Tree) → 1 ≤ size t
size_pos (Var k) = omega arith
size_pos (Make op kids) = omega arith

-- the task that comes next in such a state, and those after it
pub record Next (Valued : Type 0) (f : Meanings) (names : List Bool) (root : Subtree) (begin : List (List Waiting)) (before : Table) (known : List (List Waiting)) (table : Table) (items rest : List Task) (t : Task) : Type 0 where
  pub order : reverse items ≡ t ∷ reverse rest
  pub walks : Walks Valued f names root begin before known table (t ∷ reverse rest)

pub walk_next : {Valued : Type 0} {f : Meanings} {names : List Bool} {root : Subtree} {begin : List (List Waiting)} {before : Table} {known : List (List Waiting)} {table : Table} {items rest : List Task} {last t : Task} → items ≡ rest ++ last ∷ [] → last ≡ t → Walks Valued f names root begin before known table (reverse items) → Next Valued f names root begin before known table items rest t
walk_next {Valued = Valued} {f = f} {names = names} {root = root} {begin = begin} {before = before} {known = known} {table = table} {items = items} {rest = rest} {last = last} {t = t} popped is w =
    let order : reverse items ≡ t ∷ reverse rest = ap reverse popped ∙ reverse-append rest (last ∷ []) ∙ ap (λ x. x ∷ reverse rest) is in
    record { order = order; walks = subst (Walks Valued f names root begin before known table) order w }

module _ {Valued : Type 0} {f : Meanings} {names : List Bool} {root : Subtree} {begin : List (List Waiting)} {before : Table} {known : List (List Waiting)} {table : Table} {items rest : List Task} {s : Subtree} (next : Next Valued f names root begin before known table items rest (task.Read s)) where
  abbrev Left : List (List Waiting) → List Task → Type 0
  Left new ts = suc (all_steps (tree_at f new) ts) ≤ all_steps (tree_at f known) (reverse items)

  -- the subtree was read
  pub walk_skips : IsSome (table s) → Walks Valued f names root begin before known table (reverse rest)
  walk_skips there =
      let w = next.walks in
      record {
        grows = w.grows;
        keeps = w.keeps;
        stand = w.stand.1;
        leads = leads-weaker root (λ q. IsSome (table q) ⊎ (q ≡ s)) (λ q. IsSome (table q)) (reverse rest) (λ q. ⊎_elim (λ p. p) (λ e. subst (λ z. IsSome (table z)) (sym e) there)) w.leads;
        remembers = w.remembers;
      }

  pub steps_skip : Left known (reverse rest)
  steps_skip =
      subst (λ n. suc (all_steps (tree_at f known) (reverse rest)) ≤ n) (sym (ap (all_steps (tree_at f known)) next.order))
      (one_less (size (tree_at f known s)) (all_steps (tree_at f known) (reverse rest)) (size_pos (tree_at f known s)))
    where
      one_less : (n m : ℕ) → 1 ≤ n → suc m ≤ 2 * n + m
      one_less n m le = omega arith

  -- nodes that are added change no step
  pub steps_add : (new : List (List Waiting)) → Grows known new → Left new (reverse rest)
  steps_add new g =
      subst (λ n. suc n ≤ all_steps (tree_at f known) (reverse items)) (sym (steps-grow f known new names (reverse rest) g next.walks.stand.1)) steps_skip

  -- the subtree was opened
  module _ {new : List (List Waiting)} {sh : Shape} (later : List Task) (g : Grows known new) (o : IsShapeOf f known new names s sh) (order : reverse later ≡ asked s sh (reverse rest)) where
    pub walk_asks : Walks Valued f names root begin before new table (reverse later)
    walk_asks =
        let w = next.walks in
        let here = w.stand.0 in
        let ts = reverse rest in
        let n = length ts in
        subst (Walks Valued f names root begin before new table) (sym order) record {
          grows = grows-grows begin known new w.grows g;
          keeps = w.keeps;
          stand = reads_stand f new names (suc n) (shape_kids sh) (task.Combine s sh ∷ ts) (omega arith)
              (kid_depths names s.depth n sh here.0 o.fits)
              (o.stands n here.1) (
                (here.0, closure-grows f known new n s.closure g here.1, o.stands n here.1, o.tree_is ∙ sym (tree-grows f known new n s g here.1), o.fits),
                tasks-grow f known new names ts g w.stand.1,
              );
          leads = leads-reads root (λ q. IsSome (table q)) (shape_kids sh) (task.Combine s sh ∷ ts)
              (λ Q weaker all. (all, leads-weaker root (λ q. IsSome (table q) ⊎ (q ≡ s)) (λ q. Q q ⊎ (q ≡ s)) ts (λ q. ⊎_elim (λ p. inl (weaker q p)) (λ e. inr e)) w.leads));
          remembers = remembers-grow Valued f known new names table g w.remembers;
        }

    pub steps_ask : Left new (reverse later)
    steps_ask =
        subst (Left new) (sym order)
        (subst (λ n. suc (all_steps (tree_at f new) (asked s sh (reverse rest))) ≤ n) (sym (ap (all_steps (tree_at f known)) next.order))
        (let asks = steps_asked (tree_at f new) s (s.depth + length names) sh (reverse rest) in
        let later_steps = steps-grow f known new names (reverse rest) g next.walks.stand.1 in
        let same : size (shape_tree (tree_at f new) (s.depth + length names) sh) ≡ size (tree_at f known s) = ap size o.tree_is in
        omega arith))

-- one more reading
pub walk_adds : {Valued : Type 0} {f : Meanings} {names : List Bool} {root : Subtree} {begin : List (List Waiting)} {before : Table} {known : List (List Waiting)} {table : Table} {items rest : List Task} {t : Task} {found : Option Reading} {nodes : List (List Waiting)} {new : Table} → Next Valued f names root begin before known table items rest t → Grows known nodes → IsAdded (task_at t) found table new → ((G : Context) → indices G ≡ names → Reads Valued (with_names (task_at t).depth G) (tree_at f known (task_at t)) found) → length (reverse rest) ≤ deepest → Walks Valued f names root begin before nodes new (reverse rest)
walk_adds {Valued = Valued} {f = f} {names = names} {root = root} {begin = begin} {before = before} {known = known} {table = table} {rest = rest} {t = t} {found = found} {nodes = nodes} {new = new} next g added reads few =
    let w = next.walks in
    let ts = reverse rest in
    let s = task_at t in
    let closure = task_closure f known names (length ts) t w.stand.0 in
    let all : Remembers Valued f known names new = record {
      kept = λ q there. kept q (new q) refl there;
      right = λ G same q other is.
          ⊎_elim
          (λ old. w.remembers.right G same q other old)
          (λ both.
          subst (λ z. Reads Valued (with_names z.depth G) (tree_at f known z) other) (sym both.0)
          (subst (Reads Valued (with_names s.depth G) (tree_at f known s)) (sym both.1) (reads G same)))
          (added.each q other is);
    } in
    record {
      grows = grows-grows begin known nodes w.grows g;
      keeps = λ q there. added.keeps q (w.keeps q there);
      stand = tasks-grow f known nodes names ts g w.stand.1;
      leads = leads-weaker root (λ q. IsSome (table q) ⊎ (q ≡ s)) (λ q. IsSome (new q)) ts
          (λ q. ⊎_elim (λ p. added.keeps q p) (λ e. ap is_some (ap new e ∙ added.here)))
          (leads-rest root (λ q. IsSome (table q)) t ts w.leads);
      remembers = remembers-grow Valued f known nodes names new g all;
    }
  where
    kept : (q : Subtree) (o : Option (Option Reading)) → new q ≡ o → IsSome o → IsClosure f known deepest q.closure
    kept q None is there = cc
    kept q (Some other) is there =
        ⊎_elim
        (λ old. next.walks.remembers.kept q (ap is_some old))
        (λ both. subst (λ z. IsClosure f known deepest z.closure) (sym both.0) (closure-deeper f known (length (reverse rest)) deepest (task_at t).closure few (task_closure f known names (length (reverse rest)) t next.walks.stand.0)))
        (added.each q other is)

-- what the readings of kids were put together to
pub walk_combined : {Valued : Type 0} {f : Meanings} {names : List Bool} {root : Subtree} {begin : List (List Waiting)} {before : Table} {known : List (List Waiting)} {table : Table} {items rest : List Task} {s : Subtree} {sh : Shape} (found : Option Reading) → Next Valued f names root begin before known table items rest (task.Combine s sh) → IsCombined Valued table (s.depth + length names) sh found → (G : Context) → indices G ≡ names → Reads Valued (with_names s.depth G) (tree_at f known s) found
walk_combined {Valued = Valued} {f = f} {names = names} {known = known} {s = s} {sh = sh} found next combined G same =
    let w = next.walks in
    subst (λ t. Reads Valued (with_names s.depth G) t found) w.stand.0.3
    (combined G s.depth (tree_at f known) (ap (λ ns. s.depth + length ns) (sym same)) (subst (λ ns. ShapeFits ns s.depth sh) (sym same) w.stand.0.4) (w.remembers.right G same))

-- a walk ends

pub none_left : {X : Type 0} (xs : List X) (len : ℕ) → len ≡ length xs → len ≡ 0 → reverse xs ≡ []
none_left [] len is none = refl
none_left (x ∷ xs) len is none = absurd (omega arith)

-- the tree of a row

pub row_tree : (f : Meanings) (nodes : List (List Waiting)) (row : ℕ) (root : Subtree) → IsTree (f row) → root.closure.row.0 ≡ row → root.closure.environment ≡ env.Empty → tree_at f nodes root ≡ tree_of (f row)
row_tree f nodes row root tree is none =
    ap (λ x. tree_of (under (f root.closure.row.0) (delays f (listed nodes x)))) none
    ∙ ap (λ k. tree_of (under (f k) [])) is
    ∙ under_none (f row) tree
  where
    under_none : (o : Option Thing) → IsTree o → tree_of (under o []) ≡ tree_of o
    under_none o t = ap (λ x. tree_of (under x [])) t.1 ∙ sym (ap tree_of t.1)

-- nothing was read yet

none_there : (o : Option (Option Reading)) → o ≡ None → IsSome o → ⊥
none_there None e there = cc
none_there (Some found) e there = cc

pub remembers_nothing : (Valued : Type 0) (f : Meanings) (known : List (List Waiting)) (names : List Bool) (table : Table) → ((s : Subtree) → table s ≡ None) → Remembers Valued f known names table
remembers_nothing Valued f known names table nothing = record {
  kept = λ s there. absurd (none_there (table s) (nothing s) there);
  right = λ G same s found is. absurd (none_there (table s) (nothing s) (ap is_some is));
}

-- what a subtree is read as
pub root_reads : (Valued : Type 0) (f : Meanings) (known : List (List Waiting)) (names : List Bool) (table : Table) (root : Subtree) (found : Option Reading) → Remembers Valued f known names table → root.depth ≡ 0 → Some found ≡ table root → (G : Context) → indices G ≡ names → Reads Valued G (tree_at f known root) found
root_reads Valued f known names table root found r outermost is G same =
    subst (λ n. Reads Valued (with_names n G) (tree_at f known root) found) outermost (r.right G same root found (sym is))
