-- `search::has_foreign` meets its contract: the marker's meaning is foreign if its byte is.
use mathlib.Core.Path.{ap, ◌∙◌}
use Rattle.model.specs.Marker.{is_foreign}
use Rattle.marker.specs.Meaning.{says_foreign}
use Rattle.marker.proofs.Laws.{meaning_foreign}
use Rattle.search.proofs.Search.{marker_at}
use Rattle.search.proofs.has_foreign.Goals as goal

pub returns : goal.returns
returns c = c.is_foreign.ensures ∙ ap says_foreign c.classify.ensures ∙ meaning_foreign _ ∙ ap is_foreign (marker_at c.args.plan c.args.image.now _ _ c.base_of.ensures.0)
