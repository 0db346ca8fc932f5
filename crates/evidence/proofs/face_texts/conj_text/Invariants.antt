use Rattle.std.proofs.Common.{◌≡◌, take, string_bytes}
use Rattle.evidence.specs.Faces.{conj_text}
use Rattle.evidence.proofs.face_texts.conj_text.Given as goal

abbrev pub invariant-loop-equation : goal.invariant-loop-equation
invariant-loop-equation l = string_bytes l.text ≡ conj_text (take l.equation-index l.conj)
