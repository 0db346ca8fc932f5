-- Codes that are inferred of their parts, and those that are checked at what is inferred.
use Rattle.std.proofs.Common.{◌≡◌, ◌&&◌, ℕ, List, [], ◌∷◌, ◌++◌, map, Option, Some, None, Bool, true, false, refl, sym, ap, ap₂, ◌∙◌, subst, append_assoc, length, Bor}
use Rattle.std.specs.Option.{option_map, option_and_then}
use Rattle.syntax.specs.declared.formula.Projection.{Projection}
use Rattle.trees.specs.Trees.{Tree}
use Rattle.trees.specs.Judgements.{WithVar, WithName}
use Rattle.trees.specs.Language.{Ty, Tm}
use Rattle.translation.specs.Terms.{universe, nat, suc, zero, i0, i1, pathp, natrec, comp, f0, empty}
use Rattle.translation.specs.Forms.{one, apply_all, project, after as after_definitions}
use Rattle.codes.specs.declared.code.Code.{Code}
use Rattle.codes.specs.declared.code.CodeDef.{CodeDef}
use Rattle.codes.specs.declared.code.Element.{Element}
use Rattle.codes.specs.declared.code.Opened.{Opened}
use Rattle.codes.specs.Codes.{definitions, recursion}
use Rattle.codes.proofs.Logs.{append_empty}
use Rattle.book.specs.Contents.{Contents}
use Rattle.direct.specs.Known.{Known, value_at}
use Rattle.direct.specs.Typings.{Typing, OpenedTyping, where_true, holds, applied, projected}
use Rattle.direct.specs.Literal.{at, is_tree, motive_step}
use Rattle.typing_tasks.specs.declared.tasks.Task.{Task}
use Rattle.typing_tasks.specs.declared.tasks.Task.TheVariants as task
use Rattle.typing_tasks.specs.declared.tasks.Defining.TheVariants as defining
use Rattle.typing_tasks.specs.declared.tasks.Eliminating.TheVariants as eliminating
use Rattle.typing_tasks.specs.declared.tasks.Recurring.TheVariants as recurring
use Rattle.typing_tasks.specs.declared.tasks.Lining.TheVariants as lining
use Rattle.typing_tasks.specs.declared.tasks.Comparing.TheVariants as comparing
use Rattle.typing_tasks.specs.declared.tasks.Sort.{Sort}
use Rattle.typing_tasks.specs.declared.tasks.Sort.TheVariants.{Large, Small}
use Rattle.typing_tasks.specs.States.{State, place, place_of, with_known, finding, inferring, after, stated_at}
use Rattle.typing_tasks.specs.Outcomes.{typed, line_typed, motive_typed, element_typed, element_of, block_typed, infer, check, form, formed, passes, opened_passes, block, opened, let_of, successor_of, recursion_of, application_of, projection_of, path_type_of, transported}
use Rattle.typing_tasks.specs.Tasks.{Run, Then}
use Rattle.typing_steps.proofs.Planning.{run_one}
use Rattle.typing_tasks.proofs.OutcomeLaws.{then_where, then_map}
use Rattle.typed_nodes.specs.declared.types.TypeAt.{TypeAt}
use Rattle.typed_nodes.specs.Typed.{IsTypeAt}
use Rattle.typing_steps.proofs.GrowthLaws.{run_append}
use Rattle.bidirect.proofs.BlockLaws.{block_facts, let_state}

abbrev end_task : ℕ → Task
end_task n = task.Defining (defining.End n)

-- what texts state, one after another

two : {A : Type 0} (xs as' bs : List A) → xs ++ (as' ++ (bs ++ [])) ≡ (xs ++ as') ++ bs
two xs as' bs = ap (λ ys. xs ++ (as' ++ ys)) (append_empty bs) ∙ sym (append_assoc xs as' bs)

three : {A : Type 0} (xs as' bs cs : List A) → xs ++ (as' ++ (bs ++ (cs ++ []))) ≡ ((xs ++ as') ++ bs) ++ cs
three xs as' bs cs = sym (append_assoc xs as' (bs ++ (cs ++ []))) ∙ two (xs ++ as') bs cs

four : {A : Type 0} (xs as' bs cs ds : List A) → xs ++ (as' ++ (bs ++ (cs ++ (ds ++ [])))) ≡ (((xs ++ as') ++ bs) ++ cs) ++ ds
four xs as' bs cs ds = sym (append_assoc xs as' (bs ++ (cs ++ (ds ++ [])))) ∙ three (xs ++ as') bs cs ds

path_passes : (sort : Sort) (L : OpenedTyping) (U V : Typing) (G : Known)
    → passes sort (path_type_of L U V) G ≡ (opened_passes sort L G && (U.check G (at (value_at G L.opened) i0) && V.check G (at (value_at G L.opened) i1)))
path_passes Large L U V G = refl
path_passes Small L U V G =
    elim (L.is_small G && (U.check G (at (value_at G L.opened) i0) && V.check G (at (value_at G L.opened) i1))) as (λ p. is_tree (where_true p (Some universe)) universe ≡ p) [ true ↦ refl | false ↦ refl ]

module _ (b : Contents) where
  -- definitions before a code

  pub let_infer : (ds : Bor (List CodeDef)) (c : Bor Code) (S : State) → Run b (task.Defining (defining.Block ds) ∷ task.Infer c ∷ end_task (length ds.now) ∷ []) S (infer (let_of ds.now (typed c.now)) S)
  let_infer ds c S =
      let t = typed c.now in
      let n = length ds.now in
      let m = after_definitions (definitions ds.now) t.tree in
      let F : Tree → State = λ A. inferring (value_at S.known m) A (after m S) in (
        block ds.now S,
        refl,
        then_map b (task.Infer c ∷ end_task n ∷ []) (λ G. with_known G (after (definitions ds.now) S)) (block_typed ds.now S.known)
            (λ G e.
            let facts = block_facts ds.now S.known G e in
            let T = with_known G (after (definitions ds.now) S) in (
              infer t T,
              refl,
              then_map b (end_task n ∷ []) (λ A. inferring (value_at G t.tree) A (after t.tree T)) (t.infer G)
                  (λ A f. run_one b _ _ (end_task n) (
                    S.known,
                    facts.forgets,
                    ap (option_map F) (ap (option_and_then t.infer) e ∙ f)
                        ∙ ap Some (let_state ds.now t.tree S G facts (λ C v. S.found) (λ C v. record { context = C; term = v; type = A } ∷ S.inferred)),
                  ))
                  (λ f. ap (option_map F) (ap (option_and_then t.infer) e ∙ f)),
            ))
            (λ e. ap (option_map F) (ap (option_and_then t.infer) e)),
      )

  pub let_check : (ds : Bor (List CodeDef)) (c : Bor Code) (ty : _) (W : Tree) (S : State) → ((G : Known) → block_typed ds.now S.known ≡ Some G → IsTypeAt b ty (place_of G) W)
      → Run b (task.Defining (defining.Block ds) ∷ task.Check c ty ∷ end_task (length ds.now) ∷ []) S (check (let_of ds.now (typed c.now)) W S)
  let_check ds c ty W S there =
      let t = typed c.now in
      let n = length ds.now in
      let m = after_definitions (definitions ds.now) t.tree in
      let T : Option State = Some (finding (Tm (place S) (value_at S.known m) W) (after m S)) in
      let P : Option Known → Option State = λ o. where_true (holds o (λ H. t.check H W)) T in (
        block ds.now S,
        refl,
        then_map b (task.Check c ty ∷ end_task n ∷ []) (λ G. with_known G (after (definitions ds.now) S)) (block_typed ds.now S.known)
            (λ G e.
            let facts = block_facts ds.now S.known G e in
            let U = with_known G (after (definitions ds.now) S) in (
              check t W U,
              (W, there G e, refl),
              then_where b (end_task n ∷ []) _ (t.check G W)
                  (λ good. run_one b _ _ (end_task n) (
                    S.known,
                    facts.forgets,
                    ap P e ∙ ap (λ p. where_true p T) good
                        ∙ ap Some (let_state ds.now t.tree S G facts (λ C v. Tm C v W ∷ S.found) (λ C v. S.inferred)),
                  ))
                  (λ bad. ap P e ∙ ap (λ p. where_true p T) bad),
            ))
            (λ e. ap P e),
      )

  pub let_form : (ds : Bor (List CodeDef)) (c : Bor Code) (sort : Sort) (S : State) → Run b (task.Defining (defining.Block ds) ∷ task.Form c sort ∷ end_task (length ds.now) ∷ []) S (form sort (let_of ds.now (typed c.now)) S)
  let_form ds c sort S =
      let t = typed c.now in
      let n = length ds.now in
      let m = after_definitions (definitions ds.now) t.tree in
      let T : Option State = Some (finding (formed sort (place S) (value_at S.known m)) (after m S)) in
      let P : Option Known → Option State = λ o. where_true (holds o (passes sort t)) T in
      let whole : form sort (let_of ds.now t) S ≡ P (block_typed ds.now S.known) = ap (λ p. where_true p T) (let_passes sort) in (
        block ds.now S,
        refl,
        then_map b (task.Form c sort ∷ end_task n ∷ []) (λ G. with_known G (after (definitions ds.now) S)) (block_typed ds.now S.known)
            (λ G e.
            let facts = block_facts ds.now S.known G e in
            let U = with_known G (after (definitions ds.now) S) in (
              form sort t U,
              refl,
              then_where b (end_task n ∷ []) _ (passes sort t G)
                  (λ good. run_one b _ _ (end_task n) (
                    S.known,
                    facts.forgets,
                    whole ∙ ap P e ∙ ap (λ p. where_true p T) good
                        ∙ ap Some (let_state ds.now t.tree S G facts (λ C v. formed sort C v ∷ S.found) (λ C v. S.inferred)),
                  ))
                  (λ bad. whole ∙ ap P e ∙ ap (λ p. where_true p T) bad),
            ))
            (λ e. whole ∙ ap P e),
      )
    where
      let_passes : (sort : Sort) → passes sort (let_of ds.now (typed c.now)) S.known ≡ holds (block_typed ds.now S.known) (passes sort (typed c.now))
      let_passes Large = refl
      let_passes Small = refl

  -- numbers

  pub successor_infer : (c : Bor Code) (S : State) → Run b (task.Eliminating (eliminating.Number c) ∷ task.Eliminating eliminating.Successor ∷ []) S (infer (successor_of (typed c.now)) S)
  successor_infer c S =
      let t = typed c.now in
      let v = value_at S.known t.tree in
      let F : Tree → State = λ A. inferring (suc v) A (after (one suc t.tree) S) in (
        check t nat S,
        refl,
        then_where b (task.Eliminating eliminating.Successor ∷ []) _ (t.check S.known nat)
            (λ good. run_one b _ _ (task.Eliminating eliminating.Successor) (
              v,
              S.found,
              refl,
              ap (λ p. option_map F (where_true p (Some nat))) good
                  ∙ ap (λ ds. Some (inferring (suc v) nat (record { known = S.known; found = S.found; inferred = S.inferred; stated = S.stated ++ ds }))) (append_empty (stated_at S.known t.tree)),
            ))
            (λ bad. ap (λ p. option_map F (where_true p (Some nat))) bad),
      )

  -- heads

  pub apply_infer : (c : Bor Code) (es : Bor (List Element)) (S : State) → Run b (task.Infer c ∷ task.Eliminating (eliminating.Elements es) ∷ []) S (infer (application_of (typed c.now) (map element_typed es.now)) S)
  apply_infer c es S =
      let t = typed c.now in
      let ts = map element_typed es.now in
      let v = value_at S.known t.tree in
      let m = apply_all v (map element_of ts) in
      let state : List _ → Tree → State = λ ds T. inferring (value_at S.known m) T (record { known = S.known; found = S.found; inferred = S.inferred; stated = ds }) in
      let whole : infer (application_of t ts) S ≡ option_map (state ((S.stated ++ stated_at S.known t.tree) ++ stated_at S.known m)) (option_and_then (applied ts S.known) (t.infer S.known)) =
      ap (λ ds. option_map (state ds) (option_and_then (applied ts S.known) (t.infer S.known))) (sym (append_assoc S.stated (stated_at S.known t.tree) (stated_at S.known m))) in (
        infer t S,
        refl,
        then_map b (task.Eliminating (eliminating.Elements es) ∷ []) (λ A. inferring v A (after t.tree S)) (t.infer S.known)
            (λ A e. run_one b _ _ (task.Eliminating (eliminating.Elements es)) (v, A, S.inferred, refl, whole ∙ ap (λ o. option_map (state ((S.stated ++ stated_at S.known t.tree) ++ stated_at S.known m)) (option_and_then (applied ts S.known) o)) e))
            (λ e. whole ∙ ap (λ o. option_map (state ((S.stated ++ stated_at S.known t.tree) ++ stated_at S.known m)) (option_and_then (applied ts S.known) o)) e),
      )

  pub project_infer : (c : Bor Code) (ps : Bor (List Projection)) (S : State) → Run b (task.Infer c ∷ task.Eliminating (eliminating.Project ps) ∷ []) S (infer (projection_of (typed c.now) ps.now) S)
  project_infer c ps S =
      let t = typed c.now in
      let v = value_at S.known t.tree in
      let state : List _ → Tree → State = λ ds T. inferring (project v ps.now) T (record { known = S.known; found = S.found; inferred = S.inferred; stated = S.stated ++ ds }) in
      let whole : infer (projection_of t ps.now) S ≡ option_map (state (stated_at S.known t.tree)) (option_and_then (projected ps.now v) (t.infer S.known)) =
      ap (λ ds. option_map (state ds) (option_and_then (projected ps.now v) (t.infer S.known))) (append_empty (stated_at S.known t.tree)) in (
        infer t S,
        refl,
        then_map b (task.Eliminating (eliminating.Project ps) ∷ []) (λ A. inferring v A (after t.tree S)) (t.infer S.known)
            (λ A e. run_one b _ _ (task.Eliminating (eliminating.Project ps)) (v, A, S.inferred, refl, whole ∙ ap (λ o. option_map (state (stated_at S.known t.tree)) (option_and_then (projected ps.now v) o)) e))
            (λ e. whole ∙ ap (λ o. option_map (state (stated_at S.known t.tree)) (option_and_then (projected ps.now v) o)) e),
      )

  -- a term of the universe, as one that is inferred
  pub small_infer : (ts : List Task) (t : Typing) (S : State) → ((G : Known) (W : Tree) → t.check G W ≡ is_tree (t.infer G) W) → ((G : Known) (A : Tree) → t.infer G ≡ Some A → A ≡ universe) → Run b ts S (form Small t S)
      → Run b (ts ++ task.Comparing comparing.Small ∷ []) S (infer t S)
  small_infer ts t S checks only run = run_append b ts (task.Comparing comparing.Small ∷ []) S (form Small t S) (infer t S) run (last (t.infer S.known) refl)
    where
      last : (o : Option Tree) → t.infer S.known ≡ o → Then (Run b (task.Comparing comparing.Small ∷ [])) (form Small t S) (infer t S)
      last None e =
          let bad : t.check S.known universe ≡ false = checks S.known universe ∙ ap (λ o. is_tree o universe) e in
          rw (bad, e) refl
      last (Some A) e =
          let same : t.infer S.known ≡ Some universe = e ∙ ap Some (only S.known A e) in
          let good : t.check S.known universe ≡ true = checks S.known universe ∙ ap (λ o. is_tree o universe) same in
          rw good (run_one b _ _ (task.Comparing comparing.Small) (value_at S.known t.tree, S.found, refl, rw same refl))

  -- recursions

  pub recursion_infer : (m : Bor Opened) (a s n : Bor Code) (S : State)
      → Run b (task.Recurring (recurring.Motive m) ∷ task.Recurring (recurring.Base a) ∷ task.Recurring (recurring.Step s) ∷ task.Eliminating (eliminating.Number n) ∷ task.Recurring recurring.Close ∷ []) S
      (infer (recursion_of (motive_typed m.now) (typed a.now) (typed s.now) (typed n.now)) S)
  recursion_infer m a s n S =
      let G = S.known in
      let M = motive_typed m.now in
      let A = typed a.now in
      let B = typed s.now in
      let N = typed n.now in
      let P = value_at G M.opened in
      let R : Bool → Bool → Bool → Bool → Option Tree = λ p q r k. where_true (p && (q && (r && k))) (Some (at P (value_at G N.tree))) in
      let F : Tree → State = λ T. inferring (natrec P (value_at G A.tree) (value_at G B.tree) (value_at G N.tree)) T (after (recursion M.opened A.tree B.tree N.tree) S) in
      let p = M.is_family G in
      let q = A.check G (at P zero) in
      let r = B.check G (motive_step P) in
      let k = N.check G nat in
      let S1 = finding (Ty (WithVar (place S) nat) P) (after M.opened S) in
      let S2 = finding (Tm (place S) (value_at G A.tree) (at P zero)) (after A.tree S1) in
      let S3 = finding (Tm (place S) (value_at G B.tree) (motive_step P)) (after B.tree S2) in
      let S4 = finding (Tm (place S) (value_at G N.tree) nat) (after N.tree S3) in
      let close = task.Recurring recurring.Close in
      let number = task.Eliminating (eliminating.Number n) in
      let step = task.Recurring (recurring.Step s) in
      let base = task.Recurring (recurring.Base a) in (
        opened Large (WithVar (place S) nat) M S,
        refl,
        then_where b (base ∷ step ∷ number ∷ close ∷ []) S1 p
            (λ yp. (
              check A (at P zero) S1,
              (P, S.found, refl, refl),
              then_where b (step ∷ number ∷ close ∷ []) S2 q
                  (λ yq. (
                    check B (motive_step P) S2,
                    (P, value_at G A.tree, S.found, refl, refl),
                    then_where b (number ∷ close ∷ []) S3 r
                        (λ yr. (
                          check N nat S3,
                          refl,
                          then_where b (close ∷ []) S4 k
                              (λ yk. run_one b _ _ close (
                                P,
                                value_at G A.tree,
                                value_at G B.tree,
                                value_at G N.tree,
                                S.found,
                                refl,
                                ap (option_map F) (ap₂ (λ x y. R x y r k) yp yq ∙ ap₂ (R true true) yr yk)
                                    ∙ ap (λ ds. Some (inferring (natrec P (value_at G A.tree) (value_at G B.tree) (value_at G N.tree)) (at P (value_at G N.tree)) (record { known = G; found = S.found; inferred = S.inferred; stated = ds })))
                                    (four S.stated (stated_at G M.opened) (stated_at G A.tree) (stated_at G B.tree) (stated_at G N.tree)),
                              ))
                              (λ nk. ap (option_map F) (ap₂ (λ x y. R x y r k) yp yq ∙ ap₂ (R true true) yr nk)),
                        ))
                        (λ nr. ap (option_map F) (ap₂ (λ x y. R x y r k) yp yq ∙ ap (λ x. R true true x k) nr)),
                  ))
                  (λ nq. ap (option_map F) (ap₂ (λ x y. R x y r k) yp nq)),
            ))
            (λ np. ap (λ x. option_map F (R x q r k)) np),
      )

  -- lines

  pub path_form : (l : Bor Opened) (u v : Bor Code) (sort : Sort) (S : State)
      → Run b (task.Lining (lining.Line l sort) ∷ task.Lining (lining.Left u sort) ∷ task.Lining (lining.Right v sort) ∷ task.Lining (lining.ClosePath sort) ∷ []) S
      (form sort (path_type_of (line_typed l.now) (typed u.now) (typed v.now)) S)
  path_form l u v sort S =
      let G = S.known in
      let L = line_typed l.now in
      let U = typed u.now in
      let V = typed v.now in
      let A = value_at G L.opened in
      let t = path_type_of L U V in
      let T : Option State = Some (finding (formed sort (place S) (pathp A (value_at G U.tree) (value_at G V.tree))) (after t.tree S)) in
      let R : Bool → Bool → Bool → Option State = λ p q r. where_true (p && (q && r)) T in
      let p = opened_passes sort L G in
      let q = U.check G (at A i0) in
      let r = V.check G (at A i1) in
      let whole : form sort t S ≡ R p q r = ap (λ x. where_true x T) (path_passes sort L U V G) in
      let S1 = finding (formed sort (WithName (place S)) A) (after L.opened S) in
      let S2 = finding (Tm (place S) (value_at G U.tree) (at A i0)) (after U.tree S1) in
      let S3 = finding (Tm (place S) (value_at G V.tree) (at A i1)) (after V.tree S2) in
      let left = task.Lining (lining.Left u sort) in
      let right = task.Lining (lining.Right v sort) in
      let close = task.Lining (lining.ClosePath sort) in (
        opened sort (WithName (place S)) L S,
        refl,
        then_where b (left ∷ right ∷ close ∷ []) S1 p
            (λ yp. (
              check U (at A i0) S1,
              (A, S.found, refl, refl),
              then_where b (right ∷ close ∷ []) S2 q
                  (λ yq. (
                    check V (at A i1) S2,
                    (A, value_at G U.tree, S.found, refl, refl),
                    then_where b (close ∷ []) S3 r
                        (λ yr. run_one b _ _ close (
                          A,
                          value_at G U.tree,
                          value_at G V.tree,
                          S.found,
                          refl,
                          whole ∙ ap₂ (λ x y. R x y r) yp yq ∙ ap (R true true) yr
                              ∙ ap (λ ds. Some (finding (formed sort (place S) (pathp A (value_at G U.tree) (value_at G V.tree))) (record { known = G; found = S.found; inferred = S.inferred; stated = ds })))
                              (three S.stated (stated_at G L.opened) (stated_at G U.tree) (stated_at G V.tree)),
                        ))
                        (λ nr. whole ∙ ap₂ (λ x y. R x y r) yp yq ∙ ap (R true true) nr),
                  ))
                  (λ nq. whole ∙ ap₂ (λ x y. R x y r) yp nq),
            ))
            (λ np. whole ∙ ap (λ x. R x q r) np),
      )

  pub transport_infer : (l : Bor Opened) (u : Bor Code) (S : State)
      → Run b (task.Lining (lining.Line l Large) ∷ task.Lining (lining.Left u Large) ∷ task.Lining lining.Transport ∷ []) S (infer (transported (line_typed l.now) (typed u.now)) S)
  transport_infer l u S =
      let G = S.known in
      let L = line_typed l.now in
      let U = typed u.now in
      let A = value_at G L.opened in
      let t = transported L U in
      let R : Bool → Bool → Option Tree = λ p q. where_true (p && q) (Some (at A i1)) in
      let F : Tree → State = λ T. inferring (comp A f0 empty (value_at G U.tree)) T (after t.tree S) in
      let p = L.is_family G in
      let q = U.check G (at A i0) in
      let S1 = finding (Ty (WithName (place S)) A) (after L.opened S) in
      let S2 = finding (Tm (place S) (value_at G U.tree) (at A i0)) (after U.tree S1) in
      let left = task.Lining (lining.Left u Large) in
      let close = task.Lining lining.Transport in (
        opened Large (WithName (place S)) L S,
        refl,
        then_where b (left ∷ close ∷ []) S1 p
            (λ yp. (
              check U (at A i0) S1,
              (A, S.found, refl, refl),
              then_where b (close ∷ []) S2 q
                  (λ yq. run_one b _ _ close (
                    A,
                    value_at G U.tree,
                    S.found,
                    refl,
                    ap (option_map F) (ap₂ R yp yq)
                        ∙ ap (λ ds. Some (inferring (comp A f0 empty (value_at G U.tree)) (at A i1) (record { known = G; found = S.found; inferred = S.inferred; stated = ds })))
                        (two S.stated (stated_at G L.opened) (stated_at G U.tree)),
                  ))
                  (λ nq. ap (option_map F) (ap₂ R yp nq)),
            ))
            (λ np. ap (λ x. option_map F (R x q)) np),
      )

  -- definitions, so many of them

  pub let_infers : (ds : Bor (List CodeDef)) (c : Bor Code) (n : ℕ) (S : State) (M : Option State) → n ≡ length ds.now → M ≡ infer (let_of ds.now (typed c.now)) S → Run b (task.Defining (defining.Block ds) ∷ task.Infer c ∷ end_task n ∷ []) S M
  let_infers ds c n S M long e = rw (long, e) (let_infer ds c S)

  pub let_checks : (ds : Bor (List CodeDef)) (c : Bor Code) (n : ℕ) (ty : TypeAt) (W : Tree) (S : State) (M : Option State) → n ≡ length ds.now → IsTypeAt b ty (place S) W → M ≡ check (let_of ds.now (typed c.now)) W S → Run b (task.Defining (defining.Block ds) ∷ task.Check c ty ∷ end_task n ∷ []) S M
  let_checks ds c n ty W S M long here e =
      rw (long, e) (let_check ds c ty W S (λ G f. subst (λ H. IsTypeAt b ty H W) (sym (block_facts ds.now S.known G f).outside) here))

  pub let_forms : (ds : Bor (List CodeDef)) (c : Bor Code) (n : ℕ) (sort : Sort) (S : State) (M : Option State) → n ≡ length ds.now → M ≡ form sort (let_of ds.now (typed c.now)) S → Run b (task.Defining (defining.Block ds) ∷ task.Form c sort ∷ end_task n ∷ []) S M
  let_forms ds c n sort S M long e = rw (long, e) (let_form ds c sort S)
