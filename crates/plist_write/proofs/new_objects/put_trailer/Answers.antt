use Rattle.plist_write.proofs.new_objects.put_trailer.Goals as goal

pub returns : goal.returns
returns c = rw (c.width_of.ensures.value, c.width_of-2.ensures.value) at c.put_trailer.ensures.ok
