use Rattle.state_image.specs.rules.ProcessImage.{process_image}
use Rattle.state_image.specs.rules.Saving.{saved_of}
use Rattle.worker_store.proofs.SinkLemmas.{pushes_taken}
use Rattle.worker_store.proofs.filling.push_process_image.Goals as goal

pub returns-clause-same_snapshots : goal.returns-clause-same_snapshots
returns-clause-same_snapshots g c =
    let taken = pushes_taken c.args.sink.now c.write_process_image_to.new.sink
    (process_image (saved_of c.args.process.now)) c.write_process_image_to.result
    c.write_process_image_to.ensures in taken.same_snapshots

pub returns-clause-same_disk : goal.returns-clause-same_disk
returns-clause-same_disk g c =
    let taken = pushes_taken c.args.sink.now c.write_process_image_to.new.sink
    (process_image (saved_of c.args.process.now)) c.write_process_image_to.result
    c.write_process_image_to.ensures in taken.same_disk

pub returns-clause-takes : goal.returns-clause-takes
returns-clause-takes g c =
    pushes_taken c.args.sink.now c.write_process_image_to.new.sink
    (process_image (saved_of c.args.process.now)) c.write_process_image_to.result
    c.write_process_image_to.ensures
