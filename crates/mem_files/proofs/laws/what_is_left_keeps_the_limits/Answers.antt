use Rattle.mem_files.proofs.Leftovers.{left-are, names-long, left-found, streams-are, output-is, path-left}
use Rattle.mem_files.proofs.laws.what_is_left_keeps_the_limits.Goals as goal

pub returns : goal.returns
returns c = record {
  left = left-are;
  names = names-long;
  contents = left-found;
  streams = streams-are;
  output = output-is;
  at_path = path-left;
}
