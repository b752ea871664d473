use Rattle.databases.proofs.NewDatabaseMade.{images_left, found_left}
use Rattle.databases.proofs.new_database.a_stop_leaves_none_or_the_new_one.Goals as goal

pub returns-clause-images : goal.returns-clause-images
returns-clause-images g c = λ db stop makes same from to left.
    images_left db stop (g.D.Device.state c.args.old.now) (g.D.Device.state c.args.new.now) (g.D.Device.state c.args.next.now) makes same from to left

pub returns-clause-found : goal.returns-clause-found
returns-clause-found g c = λ db stop makes same from to left some.
    found_left c.one_contents.ensures db stop (g.D.Device.state c.args.old.now) (g.D.Device.state c.args.new.now) (g.D.Device.state c.args.next.now) makes same from to left some
