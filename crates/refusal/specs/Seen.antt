-- What a call is judged by, read off the code's view.
use Rattle.refusal.specs.declared.View.{View}
use Rattle.model.specs.Refusals as rows
use Rattle.model.specs.Calls.{view_of}

abbrev pub seen : View → rows.View
seen v = view_of v.plan v.payload.now v.phase v.image.now
