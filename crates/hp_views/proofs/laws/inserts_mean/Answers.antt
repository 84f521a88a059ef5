use Rattle.hp_views.specs.InsertLaws.{put_faithful, put_document_faithful, put_first_faithful, insert_faithful, insert_document_faithful, add_first_faithful, add_body_faithful, detach_faithful}
use Rattle.hp_views.proofs.laws.inserts_mean.Goals as goal

pub returns : goal.returns
returns c = record {
  put = put_faithful;
  put_document = put_document_faithful;
  put_first = put_first_faithful;
  insert = insert_faithful;
  insert_document = insert_document_faithful;
  add_first = add_first_faithful;
  add_body = add_body_faithful;
  detach = detach_faithful;
}
