-- References to tables, as the definitions see them.
use Rattle.std.specs.Prelude.{List, map, String}
use Rattle.std.specs.Borrow.{Bor}
use Rattle.std.specs.BTreeMap.{BTreeMap}
use Rattle.std.specs.declared.alloc.Global.{Global}
use Rattle.toml.specs.Data.{Members}
use Rattle.toml.specs.View.{table_view}
use Rattle.toml.specs.declared.value.Value.{Value}

abbrev pub TableRef : Type 0
TableRef = Bor (BTreeMap (String Global) Value)

abbrev pub tables_view : List TableRef → List Members
tables_view tables = map (λ table. table_view table.now) tables
