mod HeldLaws
mod SessionLaws
mod StageLaws
