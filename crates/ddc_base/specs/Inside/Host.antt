-- The host's files and its standard output as contracts see them: nothing but what has failed.
use Rattle.std.specs.Prelude.{ℕ, false, Option, []}
use Rattle.std.specs.Option.{option_map}
use Rattle.std.specs.FinMap as map
use Rattle.ddc_base.specs.declared.failed_call.FailedCall.{FailedCall}
use Rattle.ddc_base.specs.Inside.FailedCall.{told_call}
use Rattle.ddc_base.specs.Outside.{ShelfState, SinkState}

abbrev pub untold_shelf : ℕ → Option FailedCall → ShelfState
untold_shelf faults last_failed = record { tells = false; files = map.empty; calls = []; faults = faults; last_failed = option_map told_call last_failed }

abbrev pub untold_sink : ℕ → SinkState
untold_sink faults = record { tells = false; written = []; pieces = []; faults = faults }
