-- How the bytes of all files and streams change with a file.
use Rattle.std.proofs.Common.{◌≡◌, ℕ, ◌+◌, List, [], length, Option, Some, None, unwrap_or, refl, arith}
use Rattle.std.specs.FinMap as fin
use Rattle.mem_files.specs.World.{World, total, content_of}
use Rattle.mem_files.proofs.Maps.{size_at, sum_by-insert, sum_by-remove}

pub size_content : (o : Option (List ℕ)) → size_at length o ≡ length (unwrap_or o [])
size_content None = refl
size_content (Some content) = refl

pub total-insert : (w : World) (number : ℕ) (content : List ℕ) → total (record w { files = fin.insert w.files number content }) + length (content_of w number) ≡ total w + length content
total-insert w number content = omega (arith, sum_by-insert length w.files number content, size_content (fin.get w.files number))

pub total-remove : (w : World) (number : ℕ) → total (record w { files = fin.remove w.files number }) + length (content_of w number) ≡ total w
total-remove w number = omega (arith, sum_by-remove length w.files number, size_content (fin.get w.files number))
