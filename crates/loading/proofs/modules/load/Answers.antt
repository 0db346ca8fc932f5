use Rattle.std.proofs.Common.{◌≡◌, ◌++◌, [], ◌∷◌, sym, ◌∙◌, ap, subst, arith, length, map, true≢false}
use Rattle.module_texts.specs.Texts.{text_of}
use Rattle.loading.specs.Texts.{IsText}
use Rattle.loading.specs.Loading.{IsLoaded, IsAnother, RefusesOne}
use Rattle.loading.specs.Frames.{names_of}
use Rattle.loading.proofs.FrameLaws.{first-refused, goes-start, turn-done, turn-count, turn-known, turn-refused, turn-new, turn-less, turn-room, turn-same}
use Rattle.loading.proofs.modules.load.Goals as goal

pub returns-in-Err-clause-err : goal.returns-in-Err-clause-err
returns-in-Err-clause-err g c = λ known.
    let empty : c.deref.result.now ≡ [] = search in
    first-refused (g.F.Files.held c.args.files.now) c.args.name.now c.deref.result.now c.in-Err.fault empty (c.in-Err.ensures.err known)

pub loop-last-init : goal.loop-last-init
loop-last-init g c =
    let f = g.F.Files.held c.args.files.now in
    let text = subst (λ x. IsText f c.args.name.now (text_of x)) (sym c.new.ensures.text) c.in-Ok.ensures.text in
    let unloaded : length c.new-loaded.result.items ≡ 0 = ap length c.new-loaded.ensures.items in
    let one : length c.push.new.self.items ≡ 1 = ap length c.in-Ok-push.ensures.items ∙ ap (λ bs. length (bs ++ c.new.result ∷ [])) c.new-begun.ensures.items in (
      goes-start f c.args.name.now c.new.result c.new-begun.result.items c.push.new.self.items c.new-loaded.result.items
          c.new-loaded.ensures.items c.new-begun.ensures.items c.in-Ok-push.ensures.items text c.new.ensures.next,
      omega (arith, unloaded, one),
      c.begin.ensures.held,
      c.in-Ok.ensures.counted,
    )

pub loop-last-preserved-in_default-import : goal.loop-last-preserved-in_default-import
loop-last-preserved-in_default-import g c =
    let i = c.loop-last.invariant in
    let popped = c.in-Some.ensures.items in
    let count = turn-count c.loop-last.loaded.items c.push-in_default-import.new.self.items c.loop-last.begun.items c.pop.new.self.items c.in-Some.last c.next_import.new.self
    popped c.in-Ok-push-2.ensures.items in (
      turn-done c.loop-last.loaded.items c.push-in_default-import.new.self.items c.loop-last.begun.items c.pop.new.self.items c.in-Some.last c.next_import.new.self c.in-Ok-next_import.import
          popped c.in-Ok-next_import.ensures c.in_default-import.is c.in-Ok-push-2.ensures.items i.0,
      omega (arith, i.1, count),
      i.2,
      i.3,
    )

pub loop-last-preserved-then-is_loaded : goal.loop-last-preserved-then-is_loaded
loop-last-preserved-then-is_loaded g c =
    let i = c.loop-last.invariant in
    let known = subst (λ xs. IsLoaded (map text_of xs) c.as_str.result.now) c.deref-in-Some.ensures.value (c.is_loaded.ensures.0 c.if-is_loaded.true) in
    let same = turn-same c.loop-last.loaded.items c.loop-last.begun.items c.pop.new.self.items c.push-in-Some.new.self.items c.in-Some.last c.next_import.new.self c.in-Ok-next_import.import c.in-Some-import.import
    c.as_str.result.now c.as_str.ensures.value c.in-Some.ensures.items c.in-Ok-next_import.ensures c.in-Some-import.is c.in-Ok-push-3.ensures.items i.0 in (
      turn-known c.loop-last.loaded.items c.loop-last.begun.items c.pop.new.self.items c.push-in-Some.new.self.items c.in-Some.last c.next_import.new.self c.in-Ok-next_import.import c.in-Some-import.import
          c.as_str.result.now c.as_str.ensures.value c.in-Some.ensures.items c.in-Ok-next_import.ensures c.in-Some-import.is c.in-Ok-push-3.ensures.items i.0 known,
      omega (arith, i.1, same),
      i.2,
      i.3,
    )

pub returns-in-Err-begin-clause-err : goal.returns-in-Err-begin-clause-err
returns-in-Err-begin-clause-err g c = λ known.
    let i = c.loop-last.invariant in
    let name = c.as_str-in-Some.result.now in
    let f = c.in-Err-begin.fault in
    let len : c.len.result ≡ length c.loop-last.loaded.items = c.len.ensures ∙ c.loop-last.loaded.ok.0 in
    let not_loaded : IsLoaded (map text_of c.loop-last.loaded.items) name → ⊥ = λ k. true≢false (sym (c.is_loaded.ensures.1
    (subst (λ xs. IsLoaded (map text_of xs) c.as_str.result.now) (sym c.deref-in-Some.ensures.value)
    (subst (λ m. IsLoaded (map text_of c.loop-last.loaded.items) m) (c.as_str-in-Some.ensures.value ∙ sym c.as_str.ensures.value) k))) ∙ c.if-is_loaded.false) in
    let refused = subst (λ bs. RefusesOne (g.F.Files.held c.args.files.now) (length c.loop-last.loaded.items) (names_of bs) name f) c.deref-in-Some-2.ensures.value
    (subst (λ k. RefusesOne (g.F.Files.held c.args.files.now) k (names_of c.deref-in-Some-2.result.now) name f) len
    (subst (λ h. RefusesOne h c.len.result (names_of c.deref-in-Some-2.result.now) name f) i.2 (c.in-Err-begin.ensures.err known))) in
    turn-refused c.loop-last.loaded.items c.loop-last.begun.items c.pop.new.self.items c.push-in-Some.new.self.items c.in-Some.last c.next_import.new.self c.in-Ok-next_import.import c.in-Some-import.import
    c.as_str-in-Some.result.now c.as_str-in-Some.ensures.value c.in-Some.ensures.items c.in-Ok-next_import.ensures c.in-Some-import.is c.in-Ok-push-3.ensures.items i.0 f not_loaded refused

pub loop-last-smaller : goal.loop-last-smaller
loop-last-smaller g c =
    let i = c.loop-last.invariant in
    let name = c.as_str-in-Some.result.now in
    let len : c.len.result ≡ length c.loop-last.loaded.items = c.len.ensures ∙ c.loop-last.loaded.ok.0 in
    let another = subst (λ bs. IsAnother (length c.loop-last.loaded.items) (names_of bs) name) c.deref-in-Some-2.ensures.value
    (subst (λ k. IsAnother k (names_of c.deref-in-Some-2.result.now) name) len c.in-Ok-begin.ensures.another) in
    turn-less c.loop-last.loaded.items c.loop-last.begun.items c.pop.new.self.items c.push-in-Some.new.self.items c.in-Some.last c.next_import.new.self c.in-Ok-next_import.import c.in-Some-import.import
    c.as_str-in-Some.result.now c.as_str-in-Some.ensures.value c.in-Some.ensures.items c.in-Ok-next_import.ensures c.in-Some-import.is c.in-Ok-push-3.ensures.items i.0
    c.new-in-Some.result c.push-in-Some-2.new.self.items c.in-Ok-push-4.ensures.items another c.new-in-Some.ensures.next c.new-in-Some.result.few

pub loop-last-preserved : goal.loop-last-preserved
loop-last-preserved g c =
    let i = c.loop-last.invariant in
    let name = c.as_str-in-Some.result.now in
    let len : c.len.result ≡ length c.loop-last.loaded.items = c.len.ensures ∙ c.loop-last.loaded.ok.0 in
    let another = subst (λ bs. IsAnother (length c.loop-last.loaded.items) (names_of bs) name) c.deref-in-Some-2.ensures.value
    (subst (λ k. IsAnother k (names_of c.deref-in-Some-2.result.now) name) len c.in-Ok-begin.ensures.another) in
    let not_loaded : IsLoaded (map text_of c.loop-last.loaded.items) name → ⊥ = λ k. true≢false (sym (c.is_loaded.ensures.1
    (subst (λ xs. IsLoaded (map text_of xs) c.as_str.result.now) (sym c.deref-in-Some.ensures.value)
    (subst (λ m. IsLoaded (map text_of c.loop-last.loaded.items) m) (c.as_str-in-Some.ensures.value ∙ sym c.as_str.ensures.value) k))) ∙ c.if-is_loaded.false) in
    let text = subst (λ x. IsText (g.F.Files.held c.args.files.now) name (text_of x)) (sym c.new-in-Some.ensures.text)
    (subst (λ h. IsText h name (text_of c.in-Ok-begin.text)) i.2 c.in-Ok-begin.ensures.text) in (
      turn-new c.loop-last.loaded.items c.loop-last.begun.items c.pop.new.self.items c.push-in-Some.new.self.items c.in-Some.last c.next_import.new.self c.in-Ok-next_import.import c.in-Some-import.import
          c.as_str-in-Some.result.now c.as_str-in-Some.ensures.value c.in-Some.ensures.items c.in-Ok-next_import.ensures c.in-Some-import.is c.in-Ok-push-3.ensures.items i.0
          c.new-in-Some.result c.push-in-Some-2.new.self.items c.in-Ok-push-4.ensures.items not_loaded another text c.new-in-Some.ensures.next,
      turn-room c.loop-last.loaded.items c.loop-last.begun.items c.pop.new.self.items c.push-in-Some.new.self.items c.in-Some.last c.next_import.new.self c.in-Ok-next_import.import c.in-Some-import.import
          c.as_str-in-Some.result.now c.as_str-in-Some.ensures.value c.in-Some.ensures.items c.in-Ok-next_import.ensures c.in-Some-import.is c.in-Ok-push-3.ensures.items i.0
          c.new-in-Some.result c.push-in-Some-2.new.self.items c.in-Ok-push-4.ensures.items another,
      c.begin-in-Some.ensures.held ∙ i.2,
      c.in-Ok-begin.ensures.counted ∙ i.3,
    )
