mod Arms
mod Drafts
mod Finds
mod Firsts
mod Leads
mod Seen
mod Sets
