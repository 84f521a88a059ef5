use Rattle.std.proofs.Common.{rules}
use Rattle.hp_elements.specs.declared.act.Act.TheVariants as act
use Rattle.hp_views.specs.View.{sight}
use Rattle.hp_acts.specs.Plans.{field_plan}
use Rattle.hp_acts.proofs.CarriedOut.{by_act, by_nothing}
use Rattle.hp_acts.proofs.acts.set.Goals as goal

pub returns-in-Switch : goal.returns-in-Switch
returns-in-Switch g c = record { plan = by_act field_plan c.switch_to.result (sight g.B.Below.heard c.args.view.now) (sight g.B.Below.heard c.switch_to.new.self) c.args.act (act.Switch c.in-Switch.mode) c.in-Switch.is c.switch_to.ensures }

pub returns-in-KeepOriginal : goal.returns-in-KeepOriginal
returns-in-KeepOriginal g c = record { plan = by_act field_plan c.keep_original.result (sight g.B.Below.heard c.args.view.now) (sight g.B.Below.heard c.keep_original.new.self) c.args.act act.KeepOriginal c.in-KeepOriginal.is c.keep_original.ensures }

pub returns-in-ToOriginal : goal.returns-in-ToOriginal
returns-in-ToOriginal g c = record { plan = by_act field_plan c.to_original.result (sight g.B.Below.heard c.args.view.now) (sight g.B.Below.heard c.to_original.new.self) c.args.act act.ToOriginal c.in-ToOriginal.is c.to_original.ensures }

pub returns-in-Reset : goal.returns-in-Reset
returns-in-Reset g c = record { plan = by_act field_plan c.reset.result (sight g.B.Below.heard c.args.view.now) (sight g.B.Below.heard c.reset.new.self) c.args.act act.Reset c.in-Reset.is c.reset.ensures }

pub returns-in-Marker : goal.returns-in-Marker
returns-in-Marker g c = record { plan = by_act field_plan c.add_marker.result (sight g.B.Below.heard c.args.view.now) (sight g.B.Below.heard c.add_marker.new.self) c.args.act act.Marker c.in-Marker.is c.add_marker.ensures }

pub returns-in-ClearToMarker : goal.returns-in-ClearToMarker
returns-in-ClearToMarker g c = search rules

pub returns-in-PushTemplateMode : goal.returns-in-PushTemplateMode
returns-in-PushTemplateMode g c = record { plan = by_act field_plan c.push_template_mode.result (sight g.B.Below.heard c.args.view.now) (sight g.B.Below.heard c.push_template_mode.new.self) c.args.act (act.PushTemplateMode c.in-PushTemplateMode.mode) c.in-PushTemplateMode.is c.push_template_mode.ensures }

pub returns-in-ReplaceTemplateMode : goal.returns-in-ReplaceTemplateMode
returns-in-ReplaceTemplateMode g c = record { plan = by_act field_plan c.replace_template_mode.result (sight g.B.Below.heard c.args.view.now) (sight g.B.Below.heard c.replace_template_mode.new.self) c.args.act (act.ReplaceTemplateMode c.in-ReplaceTemplateMode.mode) c.in-ReplaceTemplateMode.is c.replace_template_mode.ensures.plan }

pub returns-in-PopTemplateMode : goal.returns-in-PopTemplateMode
returns-in-PopTemplateMode g c = record { plan = by_act field_plan c.pop_template_mode.result (sight g.B.Below.heard c.args.view.now) (sight g.B.Below.heard c.pop_template_mode.new.self) c.args.act act.PopTemplateMode c.in-PopTemplateMode.is c.pop_template_mode.ensures.plan }

pub returns-in-SkipLineFeed : goal.returns-in-SkipLineFeed
returns-in-SkipLineFeed g c = record { plan = by_act field_plan c.skip_line_feed.result (sight g.B.Below.heard c.args.view.now) (sight g.B.Below.heard c.skip_line_feed.new.self) c.args.act act.SkipLineFeed c.in-SkipLineFeed.is c.skip_line_feed.ensures }

pub returns-in-FormPointer : goal.returns-in-FormPointer
returns-in-FormPointer g c = record { plan = by_act field_plan c.point_form.result (sight g.B.Below.heard c.args.view.now) (sight g.B.Below.heard c.point_form.new.self) c.args.act act.FormPointer c.in-FormPointer.is c.point_form.ensures }

pub returns-in-HeadPointer : goal.returns-in-HeadPointer
returns-in-HeadPointer g c = record { plan = by_act field_plan c.point_head.result (sight g.B.Below.heard c.args.view.now) (sight g.B.Below.heard c.point_head.new.self) c.args.act act.HeadPointer c.in-HeadPointer.is c.point_head.ensures.plan }

pub returns-in-PushHead : goal.returns-in-PushHead
returns-in-PushHead g c = record { plan = by_act field_plan c.push_head.result (sight g.B.Below.heard c.args.view.now) (sight g.B.Below.heard c.push_head.new.self) c.args.act act.PushHead c.in-PushHead.is c.push_head.ensures }

pub returns-in-TakeHeadOff : goal.returns-in-TakeHeadOff
returns-in-TakeHeadOff g c = record { plan = by_act field_plan c.take_head_off.result (sight g.B.Below.heard c.args.view.now) (sight g.B.Below.heard c.take_head_off.new.self) c.args.act act.TakeHeadOff c.in-TakeHeadOff.is c.take_head_off.ensures }

pub returns-in-Quirks : goal.returns-in-Quirks
returns-in-Quirks g c = record { plan = by_act field_plan c.set_quirks.result (sight g.B.Below.heard c.args.view.now) (sight g.B.Below.heard c.set_quirks.new.self) c.args.act act.Quirks c.in-Quirks.is c.set_quirks.ensures.plan }

pub returns-in-EmptyPending : goal.returns-in-EmptyPending
returns-in-EmptyPending g c = record { plan = by_act field_plan c.empty_pending.result (sight g.B.Below.heard c.args.view.now) (sight g.B.Below.heard c.empty_pending.new.self) c.args.act act.EmptyPending c.in-EmptyPending.is c.empty_pending.ensures.plan }

pub returns-in-Flush : goal.returns-in-Flush
returns-in-Flush g c = record { plan = by_act field_plan c.flush.result (sight g.B.Below.heard c.args.view.now) (sight g.B.Below.heard c.flush.new.view) c.args.act act.Flush c.in-Flush.is c.flush.ensures }

pub returns-in_default : goal.returns-in_default
returns-in_default g c = record { plan = by_nothing (sight g.B.Below.heard c.args.view.now) c.args.act c.in_default.not-Switch c.in_default.not-KeepOriginal c.in_default.not-ToOriginal c.in_default.not-Reset c.in_default.not-Marker c.in_default.not-ClearToMarker c.in_default.not-PushTemplateMode c.in_default.not-ReplaceTemplateMode c.in_default.not-PopTemplateMode c.in_default.not-SkipLineFeed c.in_default.not-FormPointer c.in_default.not-HeadPointer c.in_default.not-PushHead c.in_default.not-TakeHeadOff c.in_default.not-Quirks c.in_default.not-EmptyPending c.in_default.not-Flush }
