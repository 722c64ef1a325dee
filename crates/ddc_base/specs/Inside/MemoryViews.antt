-- The objects in memory as contracts see them.
use Rattle.std.specs.Prelude.{ℕ, Option, List, refl}
use Rattle.std.specs.Option.{option_map}
use Rattle.std.specs.Coded.{Coded, code_by, coded×, coded_ℕ, coded_list, coded_option}
use Rattle.std.specs.FinMap as finite
use Rattle.ddc_base.specs.declared.outside.Operation.{Operation}
use Rattle.ddc_base.specs.contracts.outside.Operation as operation
use Rattle.ddc_base.specs.declared.outside.Call.{Call}
use Rattle.ddc_base.specs.contracts.outside.Call as call
use Rattle.ddc_base.specs.declared.memory.MemShelf.TheInside as shelf
use Rattle.ddc_base.specs.declared.memory.MemSink.TheInside as sink
use Rattle.ddc_base.specs.Outside.{NamedFiles}
use Rattle.ddc_base.specs.Inside.MemoryFiles.{files_of}
use Rattle.ddc_base.specs.Inside.FailedCall.{told_call}
use Rattle.ddc_base.specs.Memory.{MemoryShelf, MemorySink}

abbrev pub shelf_view : shelf.Inside → MemoryShelf
shelf_view a = record {
  files = files_of a.files.entries;
  calls = a.calls.items;
  loads = a.loads;
  saves = a.saves;
  failing_loads = a.failing_loads.items;
  failing_saves = a.failing_saves.items;
  faults = a.faults;
  last_failed = option_map told_call a.last_failed;
}

-- a file store is stored as its fields
abbrev pub shelf_code : Coded MemoryShelf
shelf_code =
    let numbers = coded_list coded_ℕ in
    code_by (NamedFiles × (List Call × (ℕ × (ℕ × (List ℕ × (List ℕ × (ℕ × Option (Operation × List ℕ))))))))
    (coded× (finite.code numbers numbers) (coded× (coded_list call.the_row.coded) (coded× coded_ℕ (coded× coded_ℕ (coded× numbers (coded× numbers (coded× coded_ℕ (coded_option (coded× operation.the_row.coded numbers)))))))))
    (λ s. (s.files, (s.calls, (s.loads, (s.saves, (s.failing_loads, (s.failing_saves, (s.faults, s.last_failed))))))))
    (λ p. record { files = p.0; calls = p.1.0; loads = p.1.1.0; saves = p.1.1.1.0; failing_loads = p.1.1.1.1.0; failing_saves = p.1.1.1.1.1.0; faults = p.1.1.1.1.1.1.0; last_failed = p.1.1.1.1.1.1.1 })
    (λ _. refl)

abbrev pub sink_view : sink.Inside → MemorySink
sink_view a = record { written = a.written; pieces = a.pieces.items; puts = a.puts; failing_puts = a.failing_puts.items; faults = a.faults }
