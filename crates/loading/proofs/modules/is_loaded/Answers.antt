use Rattle.std.proofs.Common.{◌≡◌}
use Rattle.module_texts.specs.Texts.{text_of}
use Rattle.loading.proofs.FrameLaws.{any-from_map, any-map}
use Rattle.loading.proofs.modules.is_loaded.Goals as goal

pub returns : goal.returns
returns c = (
  λ found. any-map text_of (λ x. x.name ≡ c.args.name.now) c.args.loaded.now (c.is_among.ensures.0 found),
  λ a. c.is_among.ensures.1 (any-from_map text_of (λ x. x.name ≡ c.args.name.now) c.args.loaded.now a),
)
