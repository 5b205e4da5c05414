use Rattle.tables.specs.Choice.{choice}
use Rattle.desk.specs.Room.{lent_room}
use Rattle.desk.proofs.lent_room.Goals as goal

pub returns-then-room-gt-MOST_ROOM : goal.returns-then-room-gt-MOST_ROOM
unfolding lent_room
returns-then-room-gt-MOST_ROOM c = search choice

pub returns : goal.returns
unfolding lent_room
returns c = search choice
