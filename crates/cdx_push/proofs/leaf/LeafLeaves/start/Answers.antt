use Rattle.cdx_push.proofs.leaf.LeafLeaves.start.Goals as goal

pub returns-in_ok-start-in-Text-clause-starts : goal.returns-in_ok-start-in-Text-clause-starts
returns-in_ok-start-in-Text-clause-starts c = rw c.in-Text.is c.in_ok-start-in-Text.ensures

pub returns-in_ok-start-in-Flag-clause-starts : goal.returns-in_ok-start-in-Flag-clause-starts
returns-in_ok-start-in-Flag-clause-starts c = rw c.in-Flag.is c.in_ok-start-in-Flag.ensures

pub returns-in_ok-start-in-AttachedText-clause-starts : goal.returns-in_ok-start-in-AttachedText-clause-starts
returns-in_ok-start-in-AttachedText-clause-starts c = rw c.in-AttachedText.is c.in_ok-start-in-AttachedText.ensures

pub returns-in_ok-start-in-Endpoints-clause-starts : goal.returns-in_ok-start-in-Endpoints-clause-starts
returns-in_ok-start-in-Endpoints-clause-starts c = rw c.in-Endpoints.is c.in_ok-start-in-Endpoints.ensures

pub returns-in_ok-start-in-Authors-clause-starts : goal.returns-in_ok-start-in-Authors-clause-starts
returns-in_ok-start-in-Authors-clause-starts c = rw c.in-Authors.is c.in_ok-start-in-Authors.ensures

pub returns-in_ok-start-in-Entity-clause-starts : goal.returns-in_ok-start-in-Entity-clause-starts
returns-in_ok-start-in-Entity-clause-starts c = rw c.in-Entity.is c.in_ok-start-in-Entity.ensures

pub returns-in_ok-start-in-Hashes-clause-starts : goal.returns-in_ok-start-in-Hashes-clause-starts
returns-in_ok-start-in-Hashes-clause-starts c = rw c.in-Hashes.is c.in_ok-start-in-Hashes.ensures

pub returns-in_ok-start-in-Properties-clause-starts : goal.returns-in_ok-start-in-Properties-clause-starts
returns-in_ok-start-in-Properties-clause-starts c = rw c.in-Properties.is c.in_ok-start-in-Properties.ensures

pub returns-in_ok-start-in-Commits-clause-starts : goal.returns-in_ok-start-in-Commits-clause-starts
returns-in_ok-start-in-Commits-clause-starts c = rw c.in-Commits.is c.in_ok-start-in-Commits.ensures

pub returns-in_ok-start-in-Patches-clause-starts : goal.returns-in_ok-start-in-Patches-clause-starts
returns-in_ok-start-in-Patches-clause-starts c = rw c.in-Patches.is c.in_ok-start-in-Patches.ensures

pub returns-in_ok-start-in-ExternalReferences-clause-starts : goal.returns-in_ok-start-in-ExternalReferences-clause-starts
returns-in_ok-start-in-ExternalReferences-clause-starts c = rw c.in-ExternalReferences.is c.in_ok-start-in-ExternalReferences.ensures

pub returns-in_ok-start-in-Dependencies-clause-starts : goal.returns-in_ok-start-in-Dependencies-clause-starts
returns-in_ok-start-in-Dependencies-clause-starts c = rw c.in-Dependencies.is c.in_ok-start-in-Dependencies.ensures

pub returns-in_ok-start-in-Compositions-clause-starts : goal.returns-in_ok-start-in-Compositions-clause-starts
returns-in_ok-start-in-Compositions-clause-starts c = rw c.in-Compositions.is c.in_ok-start-in-Compositions.ensures

pub returns-in_ok-start-in-Licenses-clause-starts : goal.returns-in_ok-start-in-Licenses-clause-starts
returns-in_ok-start-in-Licenses-clause-starts c = rw c.in-Licenses.is c.in_ok-start-in-Licenses.ensures

pub returns-in_ok-start-in-Signature-clause-starts : goal.returns-in_ok-start-in-Signature-clause-starts
returns-in_ok-start-in-Signature-clause-starts c = rw c.in-Signature.is c.in_ok-start-in-Signature.ensures

pub returns-in_ok-start-in-Tool-clause-starts : goal.returns-in_ok-start-in-Tool-clause-starts
returns-in_ok-start-in-Tool-clause-starts c = rw c.in-Tool.is c.in_ok-start-in-Tool.ensures

pub returns-in_ok-start-in-Swid-clause-starts : goal.returns-in_ok-start-in-Swid-clause-starts
returns-in_ok-start-in-Swid-clause-starts c = rw c.in-Swid.is c.in_ok-start-in-Swid.ensures

pub returns-in_ok-start-in-Evidence-clause-starts : goal.returns-in_ok-start-in-Evidence-clause-starts
returns-in_ok-start-in-Evidence-clause-starts c = rw c.in-Evidence.is c.in_ok-start-in-Evidence.ensures

pub returns-in_ok-start-in-Data-clause-starts : goal.returns-in_ok-start-in-Data-clause-starts
returns-in_ok-start-in-Data-clause-starts c = rw c.in-Data.is c.in_ok-start-in-Data.ensures
