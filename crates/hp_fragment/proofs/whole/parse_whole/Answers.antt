use Rattle.std.proofs.lemmas.Result.{IfOk-weaker}
use Rattle.std.specs.Str.{chars}
use Rattle.hp_text.specs.Page.{text_of}
use Rattle.hp_fragment.proofs.Ended.{done-growing, grown-empty, page-read, ran-valid, tree-built}
use Rattle.hp_fragment.specs.Known.{stage_of}
use Rattle.hp_fragment.specs.Making.{Applied}
use Rattle.hp_fragment.proofs.whole.parse_whole.Goals as goal

pub behind-read-requires-clause-empty : goal.behind-read-requires-clause-empty
behind-read-requires-clause-empty c = grown-empty c.in_ok-tree.tree c.in_ok-tree.ensures

pub end_input-requires-clause-valid : goal.end_input-requires-clause-valid
end_input-requires-clause-valid c =
    ran-valid c.runs_stay_valid.ensures c.start-start.result (chars c.as_str.result.now) Applied (stage_of c.in_ok-read.read) c.in_ok-read.ensures.ran c.is_kept.ensures

pub grown_tree-requires : goal.grown_tree-requires
grown_tree-requires c = record {
  grows = done-growing (chars (text_of c.args.page)) (stage_of c.in_ok-read.read) (stage_of c.end_input.new.self)
      (page-read c.start-start.result c.as_str.result.now (text_of c.args.page) (stage_of c.in_ok-read.read) c.start-start.ensures c.as_str.ensures.value c.in_ok-read.ensures.ran) c.in-Ok.ensures;
}

pub returns-in-Ok : goal.returns-in-Ok
returns-in-Ok c = record {
  tree = IfOk-weaker c.grown_tree.result _ _
      (λ tree is. tree-built c.pages_end.ensures (chars (text_of c.args.page)) (stage_of c.in_ok-read.read) (stage_of c.end_input.new.self) tree.branches
      (page-read c.start-start.result c.as_str.result.now (text_of c.args.page) (stage_of c.in_ok-read.read) c.start-start.ensures c.as_str.ensures.value c.in_ok-read.ensures.ran) c.in-Ok.ensures is)
      c.grown_tree.ensures;
}
