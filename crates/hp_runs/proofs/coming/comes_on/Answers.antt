use Rattle.hp_runs.proofs.Comes.{blanks-come, cut-ends, name-comes, run-begins, section-comes, silence-comes, tag-comes, text-begins, text-comes, tokens-come, tokens-read}
use Rattle.hp_runs.proofs.coming.comes_on.Goals as goal

pub returns : goal.returns
returns c = record {
  begins = run-begins;
  text_begins = text-begins;
  read = tokens-read;
  tokens = tokens-come;
  tag = tag-comes;
  text = text-comes;
  blanks = blanks-come;
  silence = silence-comes;
  section = section-comes;
  name = name-comes;
  cut = cut-ends;
}
